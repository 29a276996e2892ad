use Rattle.std.proofs.Common.{◌≡◌, All, length}
use Rattle.bb_miter.proofs.vectors.vectors.Given as goal

abbrev pub invariant-loop-number : goal.invariant-loop-number
invariant-loop-number l = All (λ x. length x.items ≡ l.inputs) l.vectors.items
