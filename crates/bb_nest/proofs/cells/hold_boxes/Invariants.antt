use Rattle.std.proofs.Common.{◌<◌, ℕ, All, Contains}
use Rattle.bb_net.specs.Netlists.{box_at}
use Rattle.bb_nest.specs.Nested.{pin_cells}
use Rattle.bb_nest.proofs.cells.hold_boxes.Given as goal

abbrev pub invariant-loop-pins : goal.invariant-loop-pins
invariant-loop-pins l = (a : ℕ) → a < l.pins-index → All (Contains l.ins) (pin_cells (box_at l.boxes a))
