use Rattle.std.proofs.Common.{◌≡◌, ℕ, List, Some, slice_get}
use Rattle.bb_cnf.specs.Clauses.{Literals}
use Rattle.bb_cnf.specs.Inside.PartialResolvent.{held, AreListed}
use Rattle.bb_cdcl.specs.declared.trail.Entry.{Entry}
use Rattle.bb_cdcl.specs.Inside.Analysis.{IsCovered, IsResolved}
use Rattle.bb_cdcl.proofs.units.resolve_units.Given as goal

abbrev pub invariant-loop-lit : goal.invariant-loop-lit
invariant-loop-lit l = record {
  listed : AreListed l.resolvent;
  covered : (entries : List Entry) (place back : ℕ) (e : Entry) → slice_get entries place ≡ Some e → e.lit.var ≡ l.kept
      → IsCovered entries (held l.initial.resolvent) place back → IsCovered entries (held l.resolvent) place back;
  resolved : (first : Literals) → IsResolved l.clauses first l.initial.pairs.items l.initial.resolvent → IsResolved l.clauses first l.pairs.items l.resolvent;
}
