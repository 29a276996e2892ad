use Rattle.std.proofs.Common.{◌≡◌, ◌&&◌, false, sym, ◌∙◌}
use Rattle.std.proofs.lemmas.Bool.{and_left, and_right}
use Rattle.std.proofs.lemmas.Result.{IfOk-weaker, IfErr-weaker}
use Rattle.bb_cnf.specs.Clauses.{lists_of}
use Rattle.bb_rup.specs.Dimacs.{is_mark}
use Rattle.bb_rup.specs.Inside.Ahead.{seen, words_at}
use Rattle.bb_rup.proofs.ClauseSteps.{entry_left, entry_left_fault, entry_kept, entry_kept_fault}
use Rattle.bb_rup.proofs.reading.entry.Goals.{After-clause, else-deletions-via-then-deletions+else-is_mark, else-deletions-via-else-deletions}
use Rattle.bb_rup.proofs.reading.entry.Goals as goal

-- the first word is no mark of a deletion here
is_clause : (c : After-clause) → (c.args.deletions && is_mark (seen c.args.first.word)) ≡ false
is_clause c =
    elim c.else-deletions.branch [
      | else-deletions-via-then-deletions+else-is_mark w ↦ and_right c.args.deletions (is_mark (seen c.args.first.word)) (sym w.is_mark.ensures ∙ w.if-is_mark.false)
      | else-deletions-via-else-deletions w ↦ and_left c.args.deletions (is_mark (seen c.args.first.word)) w.if-deletions.false
    ]

pub returns-then-is_mark-clause-ok : goal.returns-then-is_mark-clause-ok
returns-then-is_mark-clause-ok c =
    IfOk-weaker c.deletion.result _ _
    (λ place read. entry_left c.args.deletions c.args.vars (lists_of c.args.into.now.items) (seen c.args.first.word) (words_at c.args.first.after) read.0 (words_at place)
    c.if-deletions.true (sym c.is_mark.ensures ∙ c.if-is_mark.true) read.1)
    c.deletion.ensures.ok

pub returns-then-is_mark-clause-err : goal.returns-then-is_mark-clause-err
returns-then-is_mark-clause-err c =
    IfErr-weaker c.deletion.result _ _
    (λ fault is. entry_left_fault c.args.deletions c.args.vars (seen c.args.first.word) (words_at c.args.first.after) fault c.if-deletions.true (sym c.is_mark.ensures ∙ c.if-is_mark.true) is)
    c.deletion.ensures.err

pub returns-else-deletions-clause-ok : goal.returns-else-deletions-clause-ok
returns-else-deletions-clause-ok c =
    IfOk-weaker c.clause.result _ _
    (λ place read. entry_kept c.args.deletions c.args.vars (lists_of c.args.into.now.items) (lists_of c.clause.new.into.items) (seen c.args.first.word) (words_at c.args.first.after)
    read.0 (words_at place) (is_clause c) read.1 read.2)
    c.clause.ensures.ok

pub returns-else-deletions-clause-err : goal.returns-else-deletions-clause-err
returns-else-deletions-clause-err c =
    IfErr-weaker c.clause.result _ _
    (λ fault is. entry_kept_fault c.args.deletions c.args.vars (seen c.args.first.word) (words_at c.args.first.after) fault (is_clause c) is)
    c.clause.ensures.err
