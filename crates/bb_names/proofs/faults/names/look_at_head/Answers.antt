use Rattle.std.proofs.Common.{◌∷◌, [], ap, ◌∙◌, take}
use Rattle.std.proofs.lemmas.Result.{on_ok_weaker}
use Rattle.std.specs.List.{flat_map}
use Rattle.bb_ast.specs.Inside.Views.{head_view, module_view}
use Rattle.bb_names.specs.Declarations.{declared_by_head}
use Rattle.bb_names.specs.Inside.Firsts.{noted}
use Rattle.bb_names.specs.Sites.{HeadName, declared_sites}
use Rattle.bb_names.proofs.Noting.{noted-then}
use Rattle.bb_names.proofs.faults.names.look_at_head.Goals as goal

pub returns-clause-noted : goal.returns-clause-noted
returns-clause-noted c = λ text prefix is h.
    let m = module_view c.args.of.now in
    let f = c.args.found.now in
    let hd = head_view c.args.head.now in
    let ports = declared_sites (flat_map declared_by_head prefix) (declared_by_head hd) in
    on_ok_weaker c.look_at_head_port.result (λ step. noted-then text m f c.look_at_head_name.new.found c.look_at_head_port.new.found (HeadName (take c.args.place m.heads) hd.name ∷ []) ports (c.in_ok-look_at_head_name.ensures text) step
    ∙ ap (λ fr. noted text m f (HeadName fr hd.name ∷ ports)) is) (c.look_at_head_port.ensures.noted text (flat_map declared_by_head prefix) h)
