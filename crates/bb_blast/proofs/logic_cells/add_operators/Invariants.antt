use Rattle.std.proofs.Common.{◌≡◌, ◌++◌, map, take}
use Rattle.bb_blast.specs.Inside.Logic.{operand_place, operator_cell}
use Rattle.bb_blast.proofs.logic_cells.add_operators.Given as goal

abbrev pub invariant-loop-operator : goal.invariant-loop-operator
invariant-loop-operator l = l.cells.items ≡ l.initial.cells.items ++ map (operator_cell (operand_place l.spot.bits l.spot.starts.now l.first)) (take l.operator-index l.operators)
