use Rattle.std.proofs.Common.{◌≡◌, Ok, subst, ap, ◌∙◌}
use Rattle.bb_cnf.specs.Clauses.{lists_of}
use Rattle.bb_rup.specs.Inside.Ahead.{words_at, words_with, literals_to_end}
use Rattle.bb_rup.proofs.ClauseSteps.{lists-push}
use Rattle.bb_rup.proofs.reading.clause.Goals as goal

pub returns-clause-ok : goal.returns-clause-ok
returns-clause-ok c = (
  c.literals.new.into.items,
  subst (λ done. literals_to_end c.args.vars done (words_with c.args.first) ≡ Ok (c.literals.new.into.items, words_at c.in_ok-place.place)) c.new-lits.ensures.items c.in_ok-place.ensures.ok,
  ap lists_of c.in_ok-push.ensures.items ∙ lists-push c.args.into.now.items c.literals.new.into,
)
