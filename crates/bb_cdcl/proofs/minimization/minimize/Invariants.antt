use Rattle.bb_cnf.specs.Clauses.{Literals}
use Rattle.bb_cnf.specs.Inside.PartialResolvent.{held, AreListed}
use Rattle.bb_cdcl.specs.Inside.Analysis.{IsCovered, IsResolved}
use Rattle.bb_cdcl.proofs.minimization.minimize.Given as goal

abbrev pub invariant-loop-at : goal.invariant-loop-at
invariant-loop-at l = record {
  covered : IsCovered l.entries (held l.resolvent) l.place l.place;
  listed : AreListed l.resolvent;
  resolved : (first : Literals) → IsResolved l.clauses first l.initial.pairs.items l.initial.resolvent → IsResolved l.clauses first l.pairs.items l.resolvent;
}
