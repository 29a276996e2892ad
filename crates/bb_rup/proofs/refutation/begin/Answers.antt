use Rattle.std.proofs.Common.{[], ◌∙◌, subst}
use Rattle.bb_cnf.specs.Clauses.{lists_of}
use Rattle.bb_rup.specs.Propagation.{Follows}
use Rattle.bb_rup.specs.Inside.Trails.{IsReached, marked_by}
use Rattle.bb_rup.proofs.Reached.{reached_first, reached_false, none_after}
use Rattle.bb_rup.proofs.refutation.begin.Goals as goal

pub returns-clause-yes : goal.returns-clause-yes
returns-clause-yes c e =
    subst (λ k. Follows k []) (c.clauses_before.ensures ∙ none_after (lists_of c.args.given.now) (lists_of c.args.adds.now))
    (reached_false c.clauses_before.result [] (marked_by c.propagate.new.trail)
    (c.in_ok-yes.ensures.propagates.reached [] (reached_first c.clauses_before.result c.args.trail.now c.requires.trail c.requires.none))
    (c.in_ok-yes.ensures.conflict e))

pub returns-clause-reached : goal.returns-clause-reached
returns-clause-reached c =
    subst (λ k. IsReached k [] (marked_by c.propagate.new.trail)) (c.clauses_before.ensures ∙ none_after (lists_of c.args.given.now) (lists_of c.args.adds.now))
    (c.in_ok-yes.ensures.propagates.reached [] (reached_first c.clauses_before.result c.args.trail.now c.requires.trail c.requires.none))
