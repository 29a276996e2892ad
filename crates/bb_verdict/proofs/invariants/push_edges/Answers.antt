use Rattle.std.proofs.Common.{ap, arith, length, ◌∙◌}
use Rattle.bb_net.specs.Netlists.{Netlist}
use Rattle.bb_verdict.proofs.EdgeLines.{edges_more}
use Rattle.bb_verdict.proofs.invariants.push_edges.Goals as goal

pub loop-i-preserved : goal.loop-i-preserved
loop-i-preserved c =
    let ports = ap length c.ins-ports.ensures.ins in
    let inputs = c.inputs.ensures.inputs ∙ ap (λ (net : Netlist). net.inputs) c.net.ensures.net in (
      edges_more c.args.spec.now c.args.x.now c.args.spec.now.ins c.loop-i.i _ _ c.name-item.result c.args.text.now.items c.loop-i.text.items c.push_edge.new.text.items
          (omega (arith, c.loop-i-test.true, c.loop-i.invariant.2)) (rw c.loop-i.invariant.1 at c.name-item.is)
          (omega (arith, ports, inputs)) (omega (arith, ports, inputs)) c.loop-i.invariant.0 c.in_ok-push_edge.ensures.text,
      c.loop-i.invariant.1,
      c.loop-i.invariant.2,
      omega (arith, c.loop-i-test.true, c.loop-i.invariant.2),
    )
