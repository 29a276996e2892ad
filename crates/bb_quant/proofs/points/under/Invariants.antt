use Rattle.std.proofs.Common.{◌≡◌, ◌-◌, List, Bool}
use Rattle.bb_bits.specs.Truth.{truth_at}
use Rattle.bb_uniq.specs.Inside.Nodes.{IsRef}
use Rattle.bb_uniq.specs.Inside.Cofactors.{top_of}
use Rattle.bb_uniq.specs.Inside.Meaning.{truth_of}
use Rattle.bb_quant.specs.Inside.LeastPoints.{BeginsAs}
use Rattle.bb_quant.proofs.points.under.Given as goal

abbrev pub invariant-loop-var : goal.invariant-loop-var
invariant-loop-var l = IsRef l.d.store l.r.0 × ((q : List Bool) → BeginsAs l.fn.fixed l.fn.point q → truth_at (truth_of l.d.store l.fn.f.0) q ≡ truth_at (truth_of l.d.store l.r.0) q)

abbrev pub decreases-loop-var : goal.decreases-loop-var
decreases-loop-var l = l.d.store.vars - top_of l.d.store l.r.0
