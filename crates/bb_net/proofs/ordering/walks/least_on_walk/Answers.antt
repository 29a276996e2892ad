use Rattle.std.proofs.Common.{ap, arith}
use Rattle.std.proofs.lemmas.Bool.{both_ways}
use Rattle.std.specs.Prelude.{is_some}
use Rattle.bb_net.specs.Loose.{IsOnClosedWalk}
use borrow.Author.Count.{below_more}
use Rattle.bb_net.proofs.WalkLemmas.{not_decided}
use Rattle.bb_net.proofs.ordering.walks.least_on_walk.Goals as goal
use Rattle.bb_net.proofs.ordering.walks.least_on_walk.Goals.{else-is_none-via-then-is_none+then-may_be_on_walk+in_ok-is_on_walk+else-branch, else-is_none-via-then-is_none+else-may_be_on_walk, else-is_none-via-else-is_none}

pub loop-place-preserved : goal.loop-place-preserved
loop-place-preserved c = below_more (λ k. IsOnClosedWalk c.args.loose.now k → ⊥) c.loop-place.place c.loop-place.invariant (elim c.else-is_none.branch [
  | else-is_none-via-then-is_none+then-may_be_on_walk+in_ok-is_on_walk+else-branch w ↦ not_decided w.in_ok-is_on_walk.field-0 (IsOnClosedWalk c.args.loose.now c.loop-place.place) w.in_ok-is_on_walk.ensures.ok w.if-branch.false
  | else-is_none-via-then-is_none+else-may_be_on_walk w ↦ w.may_be_on_walk.ensures.off w.if-may_be_on_walk.false
  | else-is_none-via-else-is_none w ↦ λ walk. both_ways _ (ap is_some (c.requires.placed c.loop-place.place walk)) w.if-is_none.ensures
])

pub returns-clause-none : goal.returns-clause-none
returns-clause-none c = λ k walk. c.loop-place.invariant k (omega (arith, walk.0, c.requires.whole)) walk
