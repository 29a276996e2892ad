use Rattle.std.proofs.Common.{◌≡◌, take, map}
use Rattle.std.specs.List.{flat_map}
use Rattle.bb_ast.specs.Inside.Views.{item_view}
use Rattle.bb_names.specs.Declarations.{implicit_places}
use Rattle.bb_names.specs.Inside.Implicit.{grown}
use Rattle.bb_names.proofs.implicit.add_implicit_wires.Given as goal

abbrev pub invariant-loop-item : goal.invariant-loop-item
invariant-loop-item l = l.set.keys ≡ grown l.declared.entries l.initial.set.keys (flat_map (λ item. implicit_places item.body) (map item_view (take l.item-index l.items)))
