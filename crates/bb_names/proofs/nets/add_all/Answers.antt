use Rattle.std.proofs.Common.{ap, sym, ◌∙◌, map, subst}
use Rattle.std.proofs.lemmas.Result.{on_ok_weaker}
use Rattle.std.specs.List.{flat_map, IsDistinct}
use Rattle.bb_bits.specs.Names.{same_name}
use Rattle.bb_ast.specs.Inside.Views.{module_view, head_view, item_view}
use Rattle.bb_names.specs.Inside.NetLists.{all_placed, nets_declared_by}
use Rattle.bb_names.proofs.NetLemmas.{placed_in_order}
use Rattle.bb_names.proofs.nets.add_all.Goals as goal

pub returns : goal.returns
returns c =
    on_ok_weaker c.add_names.result (λ step.
    placed_in_order (module_view c.args.of.now) c.args.index.now.entries c.add_heads.new.index.entries c.add_items.new.index.entries c.add_names.new.index.entries c.as_slice.result.now c.requires.none
    (c.in_ok-add_heads.ensures ∙ ap (λ hs. all_placed c.args.index.now.entries (map (λ head. head.name) (map head_view hs))) (c.deref.ensures.value ∙ ap (λ m. m.heads.items) c.module.ensures))
    (c.in_ok-add_items.ensures ∙ ap (λ is. all_placed c.add_heads.new.index.entries (flat_map (λ item. nets_declared_by item.body) (map item_view is))) (c.deref-2.ensures.value ∙ ap (λ m. m.items.items) c.module-2.ensures))
    step (c.as_slice.ensures.keys ∙ c.implicit.ensures) (subst (IsDistinct same_name) (sym c.as_slice.ensures.keys) c.as_slice.ensures.unique) c.requires.few) c.add_names.ensures
