use Rattle.std.proofs.Common.{◌≡◌, map, take}
use Rattle.bb_blast.specs.Inside.Logic.{operand_in}
use Rattle.bb_blast.proofs.logic.operands_at.Given as goal

abbrev pub invariant-loop-step : goal.invariant-loop-step
invariant-loop-step l = l.operands.items ≡ map (operand_in l.results) (take l.step-index l.steps)
