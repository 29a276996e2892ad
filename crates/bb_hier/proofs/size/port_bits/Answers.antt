use Rattle.std.proofs.Common.{◌-◌, sym, ap, ◌∙◌}
use Rattle.std.specs.Prelude.{◌^◌, if◌then◌else◌}
use Rattle.bb_names.specs.declared.net.NetInfo.{NetInfo}
use Rattle.bb_expr.specs.Inside.Shares.{capped}
use Rattle.bb_hier.specs.Inside.Weights.{net_width, is_input_net, is_output_net}
use Rattle.bb_hier.proofs.CellSums.{share_step, share_end, sum_kept}
use Rattle.bb_hier.proofs.MarkLemmas.{below_cap}
use Rattle.bb_hier.proofs.size.port_bits.Goals as goal

pub loop-net-preserved : goal.loop-net-preserved
loop-net-preserved c =
    let g = λ (net : NetInfo). if (if c.args.inputs then is_input_net net else is_output_net net) then net_width net else 0 in
    share_step g c.args.nets.now c.loop-net.net-index (2 ^ 64 - 1) c.net-item.result c.loop-net.total c.port_width.result c.saturating_add-total.result c.loop-net-test.true c.net-item.is c.loop-net.invariant
    (below_cap (2 ^ 64 - 1) c.port_width.result (g c.net-item.result) c.port_width.ensures.width c.port_width.type_inv) c.saturating_add-total.ensures

pub returns : goal.returns
returns c =
    let g = λ (net : NetInfo). if (if c.args.inputs then is_input_net net else is_output_net net) then net_width net else 0 in
    record {
      bits = share_end g c.args.nets.now c.loop-net.net-index (2 ^ 64 - 1) c.loop-net.total c.loop-net-test.false c.loop-net.invariant
          ∙ ap capped (sym (sum_kept (λ net. if c.args.inputs then is_input_net net else is_output_net net) net_width c.args.nets.now));
    }
