use Rattle.std.proofs.Common.{◌++◌, [], ap, sym, ◌∙◌, subst, map, take, append-nil}
use Rattle.std.specs.List.{flat_map}
use Rattle.bb_ast.specs.Inside.Views.{head_view, item_view}
use Rattle.bb_names.specs.Declarations.{declared_by, declared_by_head}
use Rattle.bb_names.specs.Inside.Summaries.{Describes}
use Rattle.bb_names.proofs.DeclaredLists.{none_described, turn-flat, end-flat}
use Rattle.bb_names.proofs.declaring.declare_all.Goals as goal

pub loop-item-init : goal.loop-item-init
loop-item-init c =
    let heads = ap (λ hs. flat_map declared_by_head (map head_view hs)) c.deref.ensures.value in
    subst (Describes c.declare_heads.new.declared.entries) (heads ∙ sym (append-nil (flat_map declared_by_head (map head_view c.args.parsed.now.heads.items))))
    (c.in_ok-declare_heads.ensures [] (none_described c.args.declared.now.entries c.requires.none))

pub loop-item-preserved : goal.loop-item-preserved
loop-item-preserved c =
    let heads = flat_map declared_by_head (map head_view c.args.parsed.now.heads.items) in
    let items = c.args.parsed.now.items.items in
    turn-flat c.declare_item.new.declared.entries heads (λ item. declared_by item.body) item_view items c.loop-item.item-index c.item-item.result (rw c.deref-item-items.ensures.value at c.loop-item-test.true) (rw c.deref-item-items.ensures.value at c.item-item.is)
    (c.in_ok-declare_item.ensures (heads ++ flat_map (λ item. declared_by item.body) (map item_view (take c.loop-item.item-index items))) c.loop-item.invariant)

pub returns : goal.returns
returns c =
    end-flat c.loop-item.declared.entries (flat_map declared_by_head (map head_view c.args.parsed.now.heads.items)) (λ item. declared_by item.body) item_view c.args.parsed.now.items.items c.loop-item.item-index
    (rw c.deref-item-items.ensures.value at c.loop-item-test.false) c.loop-item.invariant
