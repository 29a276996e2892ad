use Rattle.std.proofs.Common.{◌≡◌, ◌<◌, ℕ, Some, true, length}
use Rattle.std.specs.Prelude.{slice_get}
use Rattle.bb_blast.specs.declared.placed.Placed.{Placed}
use Rattle.bb_blast.proofs.bit_blasting.used_modules.Given as goal

abbrev pub invariant-loop-k : goal.invariant-loop-k
invariant-loop-k l = record { long : length l.used.items ≡ l.count; only : (m : ℕ) → slice_get l.used.items m ≡ Some true → (j : ℕ) × (p : Placed) × (slice_get l.placed j ≡ Some p) × (p.module ≡ m); each : (j : ℕ) (p : Placed) → j < l.k → slice_get l.placed j ≡ Some p → slice_get l.used.items p.module ≡ Some true }
