use Rattle.std.proofs.Common.{ap, sym, refl, ◌∙◌}
use Rattle.std.proofs.lemmas.Result.{on_ok_weaker}
use Rattle.std.specs.Prelude.{◌==◌, option_map}
use Rattle.bb_ast.specs.Names.{names_in}
use Rattle.bb_ast.specs.Inside.Views.{expression, module_view}
use Rattle.bb_names.specs.Faults.{width_in}
use Rattle.bb_names.specs.Inside.Firsts.{noted_width}
use Rattle.bb_names.specs.Sites.{Clock, Read, sites_in}
use Rattle.bb_names.proofs.Noting.{noted-silent, noted-widely, clock-silent, clock-reported}
use Rattle.bb_names.proofs.Searches.{option_or-none}
use Rattle.bb_names.proofs.faults.registers.look_at_clock.Goals as goal

pub returns-in_default : goal.returns-in_default
returns-in_default c = record {
  noted = λ text.
      let m = module_view c.args.of.now in
      let e = expression c.args.clock.now in
      c.in_ok-look.ensures.noted text ∙ noted-silent text m c.args.found.now (Clock e) (sites_in Read e) refl refl refl (clock-silent text m e (sym c.first_name.ensures ∙ ap (option_map (λ n. n.now)) c.in_default.is)) refl;
}

pub returns : goal.returns
returns c = record {
  noted = λ text.
      let m = module_view c.args.of.now in
      let f = c.args.found.now in
      let e = expression c.args.clock.now in
      let n = c.in-Some.name.now in
      on_ok_weaker c.look_at_width.result (λ step. noted-widely text m f (Clock e) f.role (width_in m e) 1 n (sites_in Read e) c.look_at_width.new.found refl refl refl
      (clock-reported (width_in m e == 1) n (names_in e) (sym c.first_name.ensures ∙ ap (option_map (λ z. z.now)) c.in-Some.is)) (sym (option_or-none f.role))
      (step ∙ ap (λ w. noted_width text m f (width_in m e) 1 w (sites_in Read e)) c.bytes.ensures.bytes)) (c.look_at_width.ensures.noted text);
}
