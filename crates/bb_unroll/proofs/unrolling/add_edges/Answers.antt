use Rattle.std.proofs.Common.{◌<◌, ap, arith, length}
use Rattle.bb_net.specs.Netlists.{Netlist}
use Rattle.bb_unroll.specs.Unrolled.{ports}
use Rattle.bb_unroll.proofs.BuiltSteps.{not_may_follow, falls_may_follow, edge_added}
use Rattle.bb_unroll.proofs.unrolling.add_edges.Goals as goal

pub push-requires-clause-follows : goal.push-requires-clause-follows
push-requires-clause-follows c =
    let ins = ap length c.ins.ensures.ins in
    let inputs = ap (λ (net : Netlist). net.inputs) c.net.ensures.net in
    let lt : c.loop-i.i < ports c.args.spec.now = omega (arith, c.loop-i-test.true, ins) in
    not_may_follow c.args.spec.now c.requires.can c.loop-i.i lt c.loop-i.net c.loop-i.invariant.0 _ (omega (arith, c.inputs.ensures.inputs, ins, inputs))

pub push-requires-in-loop-i-clause-follows : goal.push-requires-in-loop-i-clause-follows
push-requires-in-loop-i-clause-follows c =
    let ins = ap length c.ins.ensures.ins in
    let inputs = ap (λ (net : Netlist). net.inputs) c.net.ensures.net in
    let lt : c.loop-i.i < ports c.args.spec.now = omega (arith, c.loop-i-test.true, ins) in
    falls_may_follow c.args.spec.now c.requires.can c.loop-i.i lt c.loop-i.net c.loop-i.invariant.0 _ (omega (arith, c.inputs.ensures.inputs, ins, inputs)) c.push.new.self c.in_ok-does_not_rise.ensures.ok _ _ (omega (arith, c.inputs.ensures.inputs, ins, inputs)) c.in_ok-does_not_rise.ensures.place

pub loop-i-preserved : goal.loop-i-preserved
loop-i-preserved c =
    let ins = ap length c.ins.ensures.ins in
    let inputs = ap (λ (net : Netlist). net.inputs) c.net.ensures.net in
    let lt : c.loop-i.i < ports c.args.spec.now = omega (arith, c.loop-i-test.true, ins) in (
      edge_added c.args.spec.now c.requires.can c.loop-i.i lt c.loop-i.net c.loop-i.invariant.0 _ (omega (arith, c.inputs.ensures.inputs, ins, inputs)) c.push.new.self c.in_ok-does_not_rise.ensures.ok _ _ (omega (arith, c.inputs.ensures.inputs, ins, inputs)) c.in_ok-does_not_rise.ensures.place c.push-in-loop-i.new.self c.in_ok-push.ensures.ok,
      omega (arith, lt),
    )
