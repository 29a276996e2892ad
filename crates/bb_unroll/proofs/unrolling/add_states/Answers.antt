use Rattle.std.proofs.Common.{◌+◌, ◌<◌, ◌∙◌, ap, ap₂, arith, length, List, ℕ}
use Rattle.std.specs.Prelude.{slice_index}
use Rattle.bb_net.specs.Netlists.{Netlist}
use Rattle.bb_unroll.specs.Unrolled.{present_place}
use Rattle.bb_unroll.proofs.BuiltSteps.{state_may_follow, state_added}
use Rattle.bb_unroll.proofs.unrolling.add_states.Goals as goal

pub push-requires-clause-follows : goal.push-requires-clause-follows
push-requires-clause-follows c =
    let lt : c.loop-j.j < length c.args.spec.now.regs = omega (arith, c.loop-j-test.true, c.loop-j.invariant.1) in
    let next = c.present_place-next.ensures.place ∙ ap₂ (λ (outs : List ℕ) (n : ℕ). present_place c.args.spec.now (slice_index outs (n + c.loop-j.j))) (c.outs.ensures.outs ∙ ap (λ (net : Netlist). net.outs) c.net.ensures.net) (ap length c.outs-in-loop-j.ensures.outs) in
    state_may_follow c.args.spec.now c.requires.can c.loop-j.j lt c.loop-j.net c.loop-j.invariant.0 c.regs.result.now c.regs.ensures.regs c.index-regs-j.result c.index-regs-j.is
    c.stores_place-stores.result c.present_place-next.result _ c.stores_place-stores.ensures.place next (ap (λ (n : ℕ). n + c.loop-j.j + 2) (ap length c.ins.ensures.ins))

pub loop-j-preserved : goal.loop-j-preserved
loop-j-preserved c =
    let lt : c.loop-j.j < length c.args.spec.now.regs = omega (arith, c.loop-j-test.true, c.loop-j.invariant.1) in
    let next = c.present_place-next.ensures.place ∙ ap₂ (λ (outs : List ℕ) (n : ℕ). present_place c.args.spec.now (slice_index outs (n + c.loop-j.j))) (c.outs.ensures.outs ∙ ap (λ (net : Netlist). net.outs) c.net.ensures.net) (ap length c.outs-in-loop-j.ensures.outs) in (
      state_added c.args.spec.now c.requires.can c.loop-j.j lt c.loop-j.net c.loop-j.invariant.0 c.regs.result.now c.regs.ensures.regs c.index-regs-j.result c.index-regs-j.is
          c.stores_place-stores.result c.present_place-next.result _ c.stores_place-stores.ensures.place next (ap (λ (n : ℕ). n + c.loop-j.j + 2) (ap length c.ins.ensures.ins)) c.push.new.self c.in_ok-push.ensures.ok,
      c.loop-j.invariant.1,
      omega (arith, lt),
    )
