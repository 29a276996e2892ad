use Rattle.std.proofs.Common.{◌≡◌, ap, sym, ◌∙◌, subst, map}
use Rattle.std.specs.Prelude.{option_map, OnOk}
use Rattle.bb_ast.specs.Syntax.{Order, Named}
use Rattle.bb_ast.specs.Inside.Views.{conns_view, optional_view, named_view, module_view}
use Rattle.bb_names.specs.Inside.Firsts.{noted}
use Rattle.bb_names.specs.Sites.{conns_sites}
use Rattle.bb_names.proofs.faults.instances.look_at_conns.Goals as goal

pub returns-in-Order : goal.returns-in-Order
returns-in-Order c = record {
  noted = λ text.
      subst (λ x. OnOk c.look_at_places.result (c.look_at_places.new.found ≡ noted text (module_view c.args.of.now) c.args.found.now (conns_sites (option_map (λ t. module_view t.now) c.args.target) x)))
      (ap (λ xs. Order (map optional_view xs)) c.deref.ensures.value ∙ sym (ap conns_view c.in-Order.is)) (c.look_at_places.ensures.noted text);
}

pub returns-in-Named : goal.returns-in-Named
returns-in-Named c = record {
  noted = λ text.
      subst (λ x. OnOk c.look_at_named.result (c.look_at_named.new.found ≡ noted text (module_view c.args.of.now) c.args.found.now (conns_sites (option_map (λ t. module_view t.now) c.args.target) x)))
      (ap (λ xs. Named (map named_view xs)) c.deref-in-Named.ensures.value ∙ sym (ap conns_view c.in-Named.is)) (c.look_at_named.ensures.noted text);
}
