use Rattle.std.proofs.Common.{[], ap, ◌∙◌, map, take}
use Rattle.std.specs.List.{flat_map}
use Rattle.std.specs.List.{take-map}
use Rattle.bb_ast.specs.Inside.Views.{head_view, module_view}
use Rattle.bb_names.specs.Declarations.{declared_by_head}
use Rattle.bb_names.specs.Inside.Firsts.{head_sites}
use Rattle.bb_names.proofs.DeclaredLists.{turn-flat}
use Rattle.bb_names.proofs.Noting.{each-turn, each-all}
use Rattle.bb_names.proofs.faults.names.look_at_heads.Goals as goal

pub loop-place-preserved : goal.loop-place-preserved
loop-place-preserved c =
    let m = module_view c.args.of.now in
    let heads = c.args.of.now.heads.items in
    let i = c.loop-place.place in
    let items = c.deref-head-items.ensures.value ∙ ap (λ z. z.heads.items) c.module.ensures in
    let within = rw items at c.loop-place-test.true in
    let at = rw items at c.head-item.is in
    record {
      noted = λ text h. each-turn text m head_sites head_view heads i c.head-item.result c.args.found.now c.loop-place.found c.look_at_head.new.found within at (c.loop-place.invariant.noted text h)
          (c.in_ok-look_at_head.ensures.noted text (map head_view (take i heads)) (take-map head_view i heads) (c.loop-place.invariant.declared h));
      declared = λ h. turn-flat c.look_at_head.new.earlier.entries [] declared_by_head head_view heads i c.head-item.result within at (c.in_ok-look_at_head.ensures.declared (flat_map declared_by_head (map head_view (take i heads))) (c.loop-place.invariant.declared h));
    }

pub returns-clause-noted : goal.returns-clause-noted
returns-clause-noted c = λ text h.
    let items = c.deref-head-items.ensures.value ∙ ap (λ z. z.heads.items) c.module.ensures in
    each-all text (module_view c.args.of.now) head_sites head_view c.args.of.now.heads.items c.loop-place.place c.args.found.now c.loop-place.found (rw items at c.loop-place-test.false) (c.loop-place.invariant.noted text h)
