use Rattle.std.proofs.Common.{◌≡◌, ◌<◌, ℕ, Bool, false, Option, length}
use Rattle.bb_tern.specs.Inside.Lanes.{HasBits, HasValues, wrong_at}
use Rattle.bb_tern.proofs.passing.first_wrong.Given as goal

abbrev pub invariant-loop-j : goal.invariant-loop-j
invariant-loop-j l = (bit : ℕ → Bool) (value : ℕ → Option Bool) → HasBits l.wanted (length l.wanted) l.k bit → HasValues l.known (length l.known) l.k value →
    (i : ℕ) → i < l.j → wrong_at bit value l.spec_outs l.imp_outs i ≡ false
