use Rattle.std.proofs.Common.{◌+◌, ◌-◌, ◌∙◌, ap, ap₂, arith, drop, length, take}
use Rattle.bb_net.specs.Netlists.{Netlist}
use Rattle.bb_verdict.proofs.EdgeLines.{pieces, seven}
use Rattle.bb_verdict.proofs.invariants.broken_report.Goals as goal

pub returns : goal.returns
returns c =
    let count = c.inputs-count.ensures.inputs ∙ ap (λ (net : Netlist). net.inputs) c.net.ensures.net in
    let ports = ap length c.ins-2.ensures.ins in
    let also = ap length c.ins.ensures.ins in
    record {
      text = seven _ _ _ _ _ _ _ _ _ _ _ _ _ _ c.in_ok-text.ensures.items c.in_ok-push_inputs.ensures.text c.in_ok-extend_from_slice.ensures.items c.in_ok-push_edges.ensures.text
          c.in_ok-extend_from_slice-2.ensures.items c.in_ok-push_inputs-2.ensures.text c.in_ok-extend_from_slice-3.ensures.items
          ∙ pieces c.args.spec.now c.args.inputs.now _ c.args.x.now _ _ c.ins.ensures.ins (ap (λ n. take n c.args.x.now) count)
          (ap₂ (λ n m. take n (drop m c.args.x.now)) {x = c.inputs-count.result + length c.ins-2.result.now - c.inputs-count.result} (omega (arith, ports, also)) count);
    }
