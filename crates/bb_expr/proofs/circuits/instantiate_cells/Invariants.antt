use Rattle.std.proofs.Common.{◌≡◌, ◌++◌, map, take}
use Rattle.bb_expr.specs.Inside.Instantiation.{moved, instantiated}
use Rattle.bb_expr.proofs.circuits.instantiate_cells.Given as goal

abbrev pub invariant-loop-cell : goal.invariant-loop-cell
invariant-loop-cell l = l.steps.items ≡ l.initial.steps.items ++ map (instantiated (moved l.at l.inputs)) (take l.cell-index l.cells)
