use Rattle.std.proofs.Common.{◌≡◌, ◌+◌, ◌-◌, List, ◌∷◌, length, drop}
use Rattle.bb_names.specs.declared.net.NetInfo.{NetInfo}
use Rattle.bb_expr.specs.declared.step.BitStep.{BitStep}
use Rattle.bb_expr.specs.Cells.{MadeTerms}
use Rattle.bb_expr.specs.Inside.Growing.{Adds}
use Rattle.bb_expr.proofs.OperatorLemmas.{IsOnTheWay}
use Rattle.bb_expr.proofs.operators.any_bit.Given as goal

abbrev pub invariant-loop-i : goal.invariant-loop-i
invariant-loop-i l = record {
  way : (nets : List NetInfo) (m : MadeTerms) (old : List BitStep) → Adds nets m old l.initial.steps.items l.bits → IsOnTheWay nets m old l.steps.items (l.any ∷ drop l.i l.bits);
  count : length l.steps.items ≡ length l.initial.steps.items + (l.i - 1);
}
