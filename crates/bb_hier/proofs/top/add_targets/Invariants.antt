use Rattle.std.proofs.Common.{◌≡◌, ◌||◌, ℕ, List, map, take}
use Rattle.std.specs.List.{list_any}
use Rattle.bb_bits.specs.Names.{same_name}
use Rattle.bb_ast.specs.Inside.Views.{item_view}
use Rattle.bb_design.specs.Hierarchy.{instances_in}
use Rattle.bb_hier.proofs.top.add_targets.Given as goal

abbrev pub invariant-loop-item : goal.invariant-loop-item
invariant-loop-item l = (n : List ℕ) → list_any (same_name n) l.targets.keys
    ≡ (list_any (same_name n) l.initial.targets.keys || list_any (λ item. list_any (λ i. same_name i.target n) (instances_in item.body)) (map item_view (take l.item-index l.items)))
