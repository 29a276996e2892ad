use Rattle.std.proofs.Common.{◌≡◌, map, take}
use Rattle.bb_blast.specs.Inside.Logic.{operand_place}
use Rattle.bb_blast.proofs.logic_cells.note_operands.Given as goal

abbrev pub invariant-loop-operand : goal.invariant-loop-operand
invariant-loop-operand l = l.places.items ≡ map (operand_place l.spot.bits l.spot.starts.now l.first) (take l.operand-index l.operands)
