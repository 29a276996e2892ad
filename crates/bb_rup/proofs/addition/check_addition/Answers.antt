use Rattle.std.proofs.Common.{[], sym, subst}
use Rattle.bb_cnf.specs.Clauses.{lists_of}
use Rattle.bb_rup.specs.Inside.Trails.{marked_by, IsReached}
use Rattle.bb_rup.proofs.Reached.{reached_same}
use Rattle.bb_rup.proofs.Steps.{same_marks, reached_after}
use Rattle.bb_rup.proofs.addition.check_addition.Goals as goal

pub keep-requires-clause-reached : goal.keep-requires-clause-reached
keep-requires-clause-reached c =
    let before = c.args.trail.now in
    let after = c.follows.new.trail in
    let marks = same_marks before after c.requires.trail c.in_ok-follows.ensures.trail c.in_ok-follows.ensures.lits in
    subst (λ k. IsReached k [] (marked_by after)) (sym c.clauses_before-2.ensures)
    (reached_after (lists_of c.args.given.now) (lists_of c.args.adds.now) c.args.number c.clause_at-addition.result.now (marked_by after) c.clause_at-addition.ensures
    (reached_same (marked_by before) (marked_by after) marks _ [] c.requires.reached))
