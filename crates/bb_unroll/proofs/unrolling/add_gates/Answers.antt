use Rattle.std.proofs.Common.{◌<◌, ◌∙◌, ap, arith, length}
use Rattle.bb_net.specs.Netlists.{Netlist}
use Rattle.bb_unroll.proofs.BuiltSteps.{gate_may_follow, gate_added}
use Rattle.bb_unroll.proofs.unrolling.add_gates.Goals as goal

pub push-requires-clause-follows : goal.push-requires-clause-follows
push-requires-clause-follows c =
    let lt : c.loop-k.k < length c.args.spec.now.net.cells = omega (arith, c.loop-k-test.true, c.loop-k.invariant.1) in
    gate_may_follow c.args.spec.now c.requires.can c.args.frame c.loop-k.k c.loop-k.invariant.2 lt c.loop-k.net c.loop-k.invariant.0 c.cells.result.now (c.cells.ensures.cells ∙ ap (λ (net : Netlist). net.cells) c.net-in-loop-k.ensures.net) c.gate_in.result c.gate_in.ensures.cell

pub loop-k-preserved : goal.loop-k-preserved
loop-k-preserved c =
    let lt : c.loop-k.k < length c.args.spec.now.net.cells = omega (arith, c.loop-k-test.true, c.loop-k.invariant.1) in (
      gate_added c.args.spec.now c.requires.can c.args.frame c.loop-k.k c.loop-k.invariant.2 lt c.loop-k.net c.loop-k.invariant.0 c.cells.result.now (c.cells.ensures.cells ∙ ap (λ (net : Netlist). net.cells) c.net-in-loop-k.ensures.net) c.gate_in.result c.gate_in.ensures.cell c.push.new.self c.in_ok-push.ensures.ok,
      c.loop-k.invariant.1,
      omega (arith, c.loop-k.invariant.2),
      omega (arith, lt),
    )
