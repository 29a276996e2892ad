use Rattle.std.proofs.Common.{◌≡◌, take, map}
use Rattle.std.specs.List.{flat_map}
use Rattle.bb_ast.specs.Inside.Views.{item_view}
use Rattle.bb_names.specs.Inside.NetLists.{all_placed, nets_declared_by}
use Rattle.bb_names.proofs.nets.add_items.Given as goal

abbrev pub invariant-loop-item : goal.invariant-loop-item
invariant-loop-item l = l.index.entries ≡ all_placed l.initial.index.entries (flat_map (λ item. nets_declared_by item.body) (map item_view (take l.item-index l.items)))
