use Rattle.std.proofs.Common.{[], ◌∷◌, ◌++◌, ap, ◌∙◌, arith}
use Rattle.bb_cnf.specs.Clauses.{positive}
use Rattle.bb_expand.specs.Inside.FreeClauses.{difference_variable}
use Rattle.bb_expand.proofs.Grows.{grown_by_one}
use Rattle.bb_expand.proofs.free_clauses.some_differs.Goals as goal

pub loop-j-preserved : goal.loop-j-preserved
loop-j-preserved c =
    grown_by_one (λ j. positive (difference_variable c.args.spec.now c.args.imp.now j)) c.loop-j.j [] c.loop-j.clause.items c.push.new.self.items c.loop-j.invariant
    (c.in_ok-push.ensures.ok ∙ ap (λ l. c.loop-j.clause.items ++ l ∷ []) (c.yes.ensures ∙ ap positive (omega (arith, c.requires.base))))
