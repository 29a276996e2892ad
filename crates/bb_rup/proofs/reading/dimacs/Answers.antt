use Rattle.std.proofs.Common.{false, true≢false, sym, ap}
use Rattle.bb_cnf.specs.Clauses.{lists_of}
use Rattle.bb_rup.specs.Inside.Ahead.{words_at}
use Rattle.bb_rup.proofs.SizeLaws.{read_within}
use Rattle.bb_rup.proofs.reading.dimacs.Goals as goal

-- each variable of the clauses is in its range
pub unreachable-requires : goal.unreachable-requires
unreachable-requires c =
    true≢false
    (sym (c.in-None.ensures.exact.1
    (read_within false c.in_ok-header.header.vars (words_at c.in_ok-header.header.after) (lists_of c.new-clauses.result.items) (lists_of c.read_clauses.new.into.items)
    (ap lists_of c.new-clauses.ensures.items) c.in_ok-read_clauses.ensures.ok)))
