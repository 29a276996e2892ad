use Rattle.std.proofs.Common.{◌≡◌, ◌||◌, vec_len}
use Rattle.bb_cnf.specs.declared.clauses.Lit.{Lit}
use Rattle.bb_cnf.specs.Clauses.{literals_of}
use Rattle.bb_cnf.specs.Inside.PartialResolvent.{held, AreListed}
use Rattle.bb_cnf.proofs.partial_resolvent.PartialResolvent.drain.Given as goal

abbrev pub invariant-loop-lit : goal.invariant-loop-lit
invariant-loop-lit l =
    ((m : Lit) → (literals_of l.made.items m || held l.self m) ≡ held l.initial.self m) × AreListed l.self

abbrev pub decreases-loop-lit : goal.decreases-loop-lit
decreases-loop-lit l = vec_len l.self.marked
