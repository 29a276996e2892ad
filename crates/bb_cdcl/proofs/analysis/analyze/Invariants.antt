use Rattle.std.proofs.Common.{◌≤◌, length, take}
use Rattle.bb_cnf.specs.Clauses.{Literals}
use Rattle.bb_cnf.specs.Inside.PartialResolvent.{held, AreListed}
use Rattle.bb_cdcl.specs.Inside.Analysis.{AreFalsified, IsResolved}
use Rattle.bb_cdcl.proofs.analysis.analyze.Given as goal

abbrev pub invariant-loop-place : goal.invariant-loop-place
invariant-loop-place l = record {
  within : l.place ≤ length l.entries;
  falsified : AreFalsified (take l.place l.entries) (held l.resolvent);
  listed : AreListed l.resolvent;
  resolved : (first : Literals) → IsResolved l.clauses first l.initial.pairs.items l.initial.resolvent → IsResolved l.clauses first l.pairs.items l.resolvent;
}

abbrev pub decreases-loop-place : goal.decreases-loop-place
decreases-loop-place l = l.place
