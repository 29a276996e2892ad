use Rattle.std.proofs.Common.{◌≡◌, ◌-◌}
use Rattle.bb_bits.specs.Truth.{truth_at}
use Rattle.bb_uniq.specs.Inside.Nodes.{IsRef}
use Rattle.bb_uniq.specs.Inside.Meaning.{truth_of}
use Rattle.bb_uniq.specs.Inside.Cofactors.{top_of}
use Rattle.bb_dd.proofs.apply.bit_at.Given as goal

abbrev pub invariant-loop-bit : goal.invariant-loop-bit
invariant-loop-bit l = IsRef l.store l.r.0 × (truth_at (truth_of l.store l.r.0) l.point ≡ truth_at (truth_of l.store l.fn.f.0) l.point)

abbrev pub decreases-loop-bit : goal.decreases-loop-bit
decreases-loop-bit l = l.store.vars - top_of l.store l.r.0
