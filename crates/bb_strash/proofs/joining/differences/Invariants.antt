use Rattle.std.proofs.Common.{◌≡◌, ◌*◌, ◌<◌, ℕ, length}
use Rattle.std.specs.Prelude.{slice_index}
use Rattle.bb_net.specs.Values.{xor}
use Rattle.bb_strash.specs.Inside.Extensions.{bit, Extends, Gives}
use Rattle.bb_strash.proofs.joining.differences.Given as goal

abbrev pub invariant-loop-j : goal.invariant-loop-j
invariant-loop-j l = Extends l.initial.hashed l.hashed (5 * l.j) × (length l.all.items ≡ l.j) × ((i : ℕ) → i < l.j → Gives l.hashed (slice_index l.all.items i) (λ x.
    xor (bit l.initial.hashed x (slice_index l.places (slice_index l.outs i))) (bit l.initial.hashed x (slice_index l.other_places (slice_index l.other_outs i)))))
