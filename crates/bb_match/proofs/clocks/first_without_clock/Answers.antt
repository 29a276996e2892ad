use Rattle.std.proofs.Common.{not, ap, ◌∙◌, subst, All}
use Rattle.std.specs.Prelude.{IsSome}
use Rattle.std.proofs.lemmas.List.{take_all}
use Rattle.bb_lemmas.proofs.Tests.{none_of}
use Rattle.bb_match.specs.Refusals.{HasNoClock}
use Rattle.bb_match.proofs.RefusalLaws.{none_is_not_some}
use Rattle.bb_match.proofs.Loops.{first_at, all_more}
use Rattle.bb_match.proofs.clocks.first_without_clock.Goals as goal

pub returns-then-is_none-clause-some : goal.returns-then-is_none-clause-some
returns-then-is_none-clause-some c = first_at HasNoClock (λ r. IsSome r.clock) (λ r none some. none_is_not_some r.clock none some) c.args.regs.now c.loop-r.r-index c.r-item.result c.loop-r-test.true c.r-item.is c.loop-r.invariant
    (none_of c.r-item.result.clock (c.is_none.ensures ∙ ap not c.if-is_none.true))

pub loop-r-preserved : goal.loop-r-preserved
loop-r-preserved c = all_more (λ r. IsSome r.clock) c.args.regs.now c.loop-r.r-index c.r-item.result c.loop-r-test.true c.r-item.is c.loop-r.invariant (c.is_none.ensures ∙ ap not c.if-is_none.false)

pub returns-clause-none : goal.returns-clause-none
returns-clause-none c = subst (All (λ r. IsSome r.clock)) (take_all c.loop-r.r-index c.args.regs.now c.loop-r-test.false) c.loop-r.invariant
