use Rattle.std.proofs.Common.{◌≡◌, ◌≤◌, ◌&&◌, ◌||◌, ℕ, false, length}
use Rattle.std.specs.Prelude.{max, nat_le, nat_lt, slice_index_or}
use Rattle.bb_hier.proofs.register_bits.mark_from.Given as goal

abbrev pub invariant-loop-p : goal.invariant-loop-p
invariant-loop-p l = (length l.marks ≡ length l.fn.marks) × (l.p ≤ max l.first l.end) × ((q : ℕ) → slice_index_or l.marks q false ≡ (slice_index_or l.fn.marks q false || (nat_le l.first q && nat_lt q l.p)))
