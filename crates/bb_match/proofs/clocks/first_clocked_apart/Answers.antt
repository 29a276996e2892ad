use Rattle.std.proofs.Common.{◌∙◌, subst, All}
use Rattle.std.proofs.lemmas.List.{take_all}
use Rattle.bb_bits.specs.Closures.{IsFirst}
use Rattle.bb_match.specs.Refusals.{IsClockedApart, HasSameClock}
use Rattle.bb_match.proofs.ClockLemmas.{apart_not_isomorphic}
use Rattle.bb_match.proofs.Loops.{first_at, all_more}
use Rattle.bb_match.proofs.clocks.first_clocked_apart.Goals as goal

pub returns-then-is_clocked_apart-clause-some : goal.returns-then-is_clocked_apart-clause-some
returns-then-is_clocked_apart-clause-some c =
    let f = c.args.spec.now in
    let g = c.args.imp.now in
    subst (λ regs. IsFirst (IsClockedApart f g) regs c.r-item.result) c.regs-r-items.ensures.regs
    (first_at (IsClockedApart f g) (HasSameClock f g) (apart_not_isomorphic f g) c.regs-r-items.result.now c.loop-r.r-index c.r-item.result c.loop-r-test.true c.r-item.is c.loop-r.invariant c.if-is_clocked_apart.ensures.apart)

pub loop-r-preserved : goal.loop-r-preserved
loop-r-preserved c =
    all_more (HasSameClock c.args.spec.now c.args.imp.now) c.regs-r-items.result.now c.loop-r.r-index c.r-item.result c.loop-r-test.true c.r-item.is c.loop-r.invariant c.if-is_clocked_apart.ensures.apart

pub returns-clause-none : goal.returns-clause-none
returns-clause-none c = subst (All (HasSameClock c.args.spec.now c.args.imp.now)) (take_all c.loop-r.r-index c.regs-r-items.result.now c.loop-r-test.false ∙ c.regs-r-items.ensures.regs) c.loop-r.invariant
