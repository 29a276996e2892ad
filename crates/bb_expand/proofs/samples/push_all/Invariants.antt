use Rattle.std.proofs.Common.{◌≡◌, ◌++◌}
use Rattle.bb_cdcl.specs.Inside.Outcomes.{formula}
use Rattle.bb_cnf.specs.Clauses.{lists_of}
use Rattle.bb_expand.proofs.samples.push_all.Given as goal

abbrev pub invariant-loop-clause : goal.invariant-loop-clause
invariant-loop-clause l = record {
  all : l.yielded ++ l.clause-iterator.rest.items ≡ l.fn.clauses.items;
  pushed : l.solver ≡ formula l.initial.solver.vars (l.initial.solver.clauses ++ lists_of l.yielded);
}
