use Rattle.std.proofs.Common.{◌≡◌, ◌++◌, take}
use Rattle.bb_cnf.specs.Clauses.{lists_of}
use Rattle.bb_cnf.specs.Lines.{clause_lines}
use Rattle.bb_cnf.proofs.printer.put_clauses.Given as goal

abbrev pub invariant-loop-place : goal.invariant-loop-place
invariant-loop-place l = l.into.items ≡ l.initial.into.items ++ clause_lines 0 (lists_of (take l.place l.clauses))
