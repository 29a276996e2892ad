use Rattle.std.proofs.Common.{◌≡◌, map, take}
use Rattle.std.specs.List.{flat_map}
use Rattle.bb_ast.specs.Inside.Views.{item_view}
use Rattle.bb_design.specs.Hierarchy.{instances_in}
use Rattle.bb_hier.proofs.summary.names_in.Given as goal

abbrev pub invariant-loop-item : goal.invariant-loop-item
invariant-loop-item l = l.names.items ≡ map (λ i. i.name) (flat_map (λ item. instances_in item.body) (map item_view (take l.item-index l.items)))
