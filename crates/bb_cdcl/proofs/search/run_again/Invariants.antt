use Rattle.std.proofs.Common.{◌≡◌, length}
use Rattle.bb_cnf.specs.Clauses.{lists_of}
use Rattle.bb_cdcl.specs.Inside.States.{IsDerived, IsReady}
use Rattle.bb_cdcl.proofs.search.run_again.Given as goal

abbrev pub invariant-loop : goal.invariant-loop
invariant-loop l = record {
  derived : IsDerived (lists_of l.given) l.s;
  ready : IsReady l.s;
  same : length l.s.trail.values.items ≡ length l.initial.s.trail.values.items;
}
