use Rattle.std.proofs.Common.{◌≡◌, length}
use Rattle.bb_cnf.specs.Clauses.{lists_of}
use Rattle.bb_rup.specs.Dimacs.{clauses_of}
use Rattle.bb_rup.specs.Inside.Ahead.{words_at, IsCounted, prepended}
use Rattle.bb_rup.proofs.reading.read_clauses.Given as goal

abbrev pub invariant-loop-first : goal.invariant-loop-first
invariant-loop-first l =
    (prepended (lists_of l.into.items) (clauses_of l.deletions l.vars (words_at l.place)) ≡ prepended (lists_of l.initial.into.items) (clauses_of l.deletions l.vars (words_at l.start)))
    × IsCounted l.place

abbrev pub decreases-loop-first : goal.decreases-loop-first
decreases-loop-first l = length l.place.rest.now
