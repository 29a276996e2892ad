use Rattle.std.proofs.Common.{◌≡◌, length}
use Rattle.bb_cnf.specs.Clauses.{lists_of}
use Rattle.bb_cdcl.specs.Inside.States.{IsDerived, IsReady, left_of}
use Rattle.bb_cdcl.proofs.search.run_to.Given as goal

abbrev pub invariant-loop-alloc : goal.invariant-loop-alloc
invariant-loop-alloc l = record {
  derived : IsDerived (lists_of l.given) l.s;
  ready : IsReady l.s;
  same : length l.s.trail.values.items ≡ length l.initial.s.trail.values.items;
}

abbrev pub decreases-loop-alloc : goal.decreases-loop-alloc
decreases-loop-alloc l = left_of l.s
