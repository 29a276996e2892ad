use Rattle.std.proofs.Common.{◌<◌, ℕ, take}
use Rattle.bb_net.specs.Netlists.{box_at}
use Rattle.bb_nest.specs.Inside.Readers.{HoldBoxes}
use Rattle.bb_nest.proofs.cells.hold_earlier.Given as goal

abbrev pub invariant-loop-b : goal.invariant-loop-b
invariant-loop-b l = (b : ℕ) → b < l.b → HoldBoxes (box_at l.boxes b).ins (take b l.boxes)
