use Rattle.std.proofs.Common.{◌≡◌, ◌<◌, ℕ, Some, take, length}
use Rattle.std.specs.Prelude.{slice_get}
use Rattle.bb_blast.specs.Inside.ModuleTemplates.{net_start}
use Rattle.bb_blast.specs.Inside.BitBlasting.{bit_count}
use Rattle.bb_blast.proofs.net_starts.starts_of.Given as goal

abbrev pub invariant-loop-net : goal.invariant-loop-net
invariant-loop-net l = record { next : l.next ≡ bit_count (take l.net-index l.nets); long : length l.starts.items ≡ l.net-index; each : (k : ℕ) → k < l.net-index → slice_get l.starts.items k ≡ Some (net_start l.nets k) }
