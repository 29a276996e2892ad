use Rattle.std.proofs.Common.{◌≡◌, ◌<◌, ◌≤◌, ◌-◌, ℕ, length}
use Rattle.bb_sym.specs.Inside.Made.{ref_at}
use Rattle.bb_nest.proofs.seeing.reader.Given as goal

abbrev pub invariant-loop-p : goal.invariant-loop-p
invariant-loop-p l = (l.p ≤ length l.ins) × ((q : ℕ) → q < l.p → ref_at l.ins q ≡ l.r → ⊥)

abbrev pub decreases-loop-p : goal.decreases-loop-p
decreases-loop-p l = length l.ins - l.p
