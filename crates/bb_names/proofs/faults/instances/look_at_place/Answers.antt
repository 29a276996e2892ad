use Rattle.std.proofs.Common.{◌≡◌, ap, sym, subst}
use Rattle.std.specs.Prelude.{option_map, OnOk}
use Rattle.bb_ast.specs.Inside.Views.{optional_view, module_view}
use Rattle.bb_names.specs.Inside.Firsts.{noted}
use Rattle.bb_names.specs.Sites.{joined_sites}
use Rattle.bb_names.proofs.faults.instances.look_at_place.Goals as goal

pub returns-in-Some : goal.returns-in-Some
returns-in-Some c = record {
  noted = λ text.
      subst (λ o. OnOk c.look_at_joined.result (c.look_at_joined.new.found ≡ noted text (module_view c.args.of.now) c.args.found.now (joined_sites (option_map (λ p. record { name = p.name.now; dir = p.dir; width = p.width }) c.args.pin) o)))
      (sym (ap optional_view c.in-Some.is)) (c.look_at_joined.ensures.noted text);
}
