use Rattle.std.proofs.Common.{◌≡◌, ◌++◌, ℕ, List}
use Rattle.bb_strash.proofs.cutting.push_gates.Given as goal

abbrev pub invariant-loop-gate : goal.invariant-loop-gate
invariant-loop-gate l = (more : List ℕ) × (l.known.items ≡ l.initial.known.items ++ more)
