use Rattle.std.proofs.Common.{◌++◌, ◌∙◌, sym, ap, take}
use Rattle.bb_cnf.specs.Clauses.{lists_of}
use Rattle.bb_cnf.specs.Lines.{clause_line, clause_lines}
use Rattle.bb_cnf.proofs.Kept.{kept_on_err}
use Rattle.bb_cnf.proofs.PrintedLines.{added, clause_lines-more}
use Rattle.bb_cnf.proofs.printer.put_clauses.Goals as goal

pub returns-in_err-put_clause-clause-err : goal.returns-in_err-put_clause-clause-err
returns-in_err-put_clause-clause-err c = kept_on_err _ _ _ _ _ c.loop-place.invariant c.in_err-put_clause.ensures.err

pub loop-place-preserved : goal.loop-place-preserved
loop-place-preserved c =
    added _ _ _ _ _ _ c.loop-place.invariant c.in_ok-put_clause.ensures.ok
    (clause_lines-more c.args.clauses.now c.loop-place.place c.index-clauses-place.result c.loop-place-test.true
    ∙ ap (λ lits. clause_lines 0 (lists_of (take c.loop-place.place c.args.clauses.now)) ++ clause_line c.loop-place.place lits)
    (ap (λ clause. clause.items) (sym c.index-clauses-place.is) ∙ sym c.as_slice.ensures))
