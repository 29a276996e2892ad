use Rattle.std.proofs.Common.{false, sym, ◌∙◌, subst, take}
use Rattle.bb_rup.specs.Inside.Trails.{marked}
use Rattle.bb_rup.specs.Inside.Statuses.{IsSoFar}
use Rattle.bb_rup.proofs.ClauseKinds.{two_at}
use Rattle.bb_rup.proofs.examination.examine.Goals as goal

pub returns-then-not-is_same : goal.returns-then-not-is_same
returns-then-not-is_same c =
    two_at (marked c.args.marks.now) c.args.clause.now c.loop-lit.lit-index (record { var = 0; neg = false }) c.in-Some.other c.loop-lit-test.true
    (subst (IsSoFar (marked c.args.marks.now) (take c.loop-lit.lit-index c.args.clause.now)) c.in-Some.is c.loop-lit.invariant)
    (sym c.is_same.ensures ∙ c.if-not-is_same.true) (sym c.is_false.ensures ∙ c.if-not-is_false.true)
