use Rattle.std.proofs.Common.{take, All, Contains}
use Rattle.bb_nest.proofs.cells.hold_cells.Given as goal

abbrev pub invariant-loop-cell : goal.invariant-loop-cell
invariant-loop-cell l = All (Contains l.ins) (take l.cell-index l.cells)
