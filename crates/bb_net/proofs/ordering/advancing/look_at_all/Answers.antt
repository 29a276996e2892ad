use Rattle.std.proofs.Common.{◌+◌, List, [], drop, subst, ◌∙◌, arith}
use Rattle.std.proofs.lemmas.List.{drop_more}
use Rattle.bb_net.specs.Inside.Placings.{IsPlacing}
use Rattle.bb_net.specs.declared.ordering.placing.Waiter.{Waiter}
use Rattle.bb_net.specs.declared.ordering.placing.Waiter.TheVariants as waiter
use Rattle.bb_net.proofs.ordering.advancing.look_at_all.Goals as goal

pub look_at-requires : goal.look_at-requires
look_at-requires c =
    let i = c.loop-waiter.waiter-index in
    record { placing = (drop (i + 1) c.args.woken.now, subst (λ (ws : List Waiter). IsPlacing c.args.loose.now c.loop-waiter.s ws []) (drop_more c.args.woken.now i (waiter.Cell 0) c.loop-waiter-test.true) c.loop-waiter.invariant.placing) }

pub loop-waiter-preserved : goal.loop-waiter-preserved
loop-waiter-preserved c =
    let i = c.loop-waiter.waiter-index in
    let now = subst (λ (ws : List Waiter). IsPlacing c.args.loose.now c.loop-waiter.s ws []) (drop_more c.args.woken.now i (waiter.Cell 0) c.loop-waiter-test.true) c.loop-waiter.invariant.placing in
    record {
      placing = c.in_ok-look_at.ensures.ok.placing (drop (i + 1) c.args.woken.now) now;
      less = omega (arith, c.in_ok-look_at.ensures.ok.less, c.loop-waiter.invariant.less);
      numbers = c.in_ok-look_at.ensures.ok.numbers ∙ c.loop-waiter.invariant.numbers;
    }
