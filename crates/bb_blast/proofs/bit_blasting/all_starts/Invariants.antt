use Rattle.std.proofs.Common.{◌≡◌, ◌<◌, ℕ, Some, true, length, Vec, Global}
use Rattle.std.specs.Prelude.{slice_get}
use Rattle.bb_names.specs.Nets.{nets_of}
use Rattle.bb_blast.specs.Inside.BitBlasting.{AreStarts, module_in}
use Rattle.bb_blast.proofs.bit_blasting.all_starts.Given as goal

abbrev pub invariant-loop-k : goal.invariant-loop-k
invariant-loop-k l = record { long : length l.starts.items ≡ l.k; started : (m : ℕ) → m < l.k → slice_get l.used m ≡ Some true → (v : Vec ℕ Global) × (slice_get l.starts.items m ≡ Some v) × AreStarts (nets_of (module_in l.checked m)) v.items }
