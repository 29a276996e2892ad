use Rattle.std.proofs.Common.{◌∷◌, [], ap, sym, ◌∙◌}
use Rattle.std.specs.Prelude.{None}
use Rattle.bb_ast.specs.Inside.Views.{expression, optional_view, module_view}
use Rattle.bb_names.specs.Inside.Firsts.{noted}
use Rattle.bb_names.specs.Sites.{Driven, Read, Used, sites_in, initial_sites}
use Rattle.bb_names.proofs.Noting.{noted-then}
use Rattle.bb_names.proofs.faults.items.look_at_initial.Goals as goal

pub returns : goal.returns
returns c = record {
  noted = λ text.
      let m = module_view c.args.of.now in
      let f = c.args.found.now in
      let n = c.args.name.now in
      noted-then text m f c.look_at_name.new.found c.look.new.found (Used Driven n None ∷ []) (sites_in Read (expression c.in-Some.value)) (c.in_ok-look_at_name.ensures.noted text) (c.in_ok-look.ensures.noted text)
      ∙ ap (λ o. noted text m f (initial_sites (n, o))) (sym (ap optional_view c.in-Some.is));
}
