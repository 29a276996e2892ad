use Rattle.std.proofs.Common.{◌∙◌, [], arith}
use Rattle.bb_net.proofs.LookedAt.{fresh_there, IsPlacing-wake}
use Rattle.bb_net.proofs.ordering.advancing.settle.Goals as goal

pub wake-woken-requires : goal.wake-woken-requires
wake-woken-requires c =
    let s = c.loop-a.s in
    let there = fresh_there c.args.loose.now s.net s.to.items s.numbers.items s.numbered.items s.waiting.items s.fresh.items c.pop.new.self.items _ [] [] c.in-Some.a c.loop-a.invariant.placing c.in-Some.ensures.items in
    record { there = omega (arith, there, s.waiting.ok.0) }

pub look_at_all-requires : goal.look_at_all-requires
look_at_all-requires c =
    let s = c.loop-a.s in
    record {
      placing = rw (c.wake-woken.ensures.left, c.deref.ensures.value ∙ c.wake-woken.ensures.woken)
          (IsPlacing-wake c.args.loose.now s.net s.to.items s.numbers.items s.numbered.items s.waiting.items s.fresh.items c.pop.new.self.items _ c.in-Some.a c.loop-a.invariant.placing c.in-Some.ensures.items);
    }
