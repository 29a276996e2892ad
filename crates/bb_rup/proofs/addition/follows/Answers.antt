use Rattle.bb_rup.proofs.Steps.{follows_then, stays_then}
use Rattle.bb_rup.proofs.addition.follows.Goals as goal

pub returns-clause-yes : goal.returns-clause-yes
returns-clause-yes c e =
    follows_then c.args.clauses.now c.args.clause.now c.args.trail.now c.make_all_false.new.trail c.settle.new.trail c.in_ok-make_all_false.ensures
    c.in_ok-yes.ensures.propagates c.requires.reached (c.in_ok-yes.ensures.conflict e)

pub returns-clause-no : goal.returns-clause-no
returns-clause-no c e =
    stays_then c.args.clauses.now c.args.clause.now c.args.trail.now c.make_all_false.new.trail c.settle.new.trail c.in_ok-make_all_false.ensures
    c.in_ok-yes.ensures.propagates (c.in_ok-yes.ensures.quiet e)
