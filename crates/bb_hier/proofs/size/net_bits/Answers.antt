use Rattle.std.proofs.Common.{◌-◌}
use Rattle.std.specs.Prelude.{◌^◌}
use Rattle.bb_hier.specs.Inside.Weights.{net_width}
use Rattle.bb_hier.proofs.CellSums.{share_step, share_end}
use Rattle.bb_hier.proofs.MarkLemmas.{below_cap}
use Rattle.bb_hier.proofs.size.net_bits.Goals as goal

pub loop-net-preserved : goal.loop-net-preserved
loop-net-preserved c = share_step net_width c.args.nets.now c.loop-net.net-index (2 ^ 64 - 1) c.net-item.result c.loop-net.total c.width_of.result c.saturating_add-total.result c.loop-net-test.true c.net-item.is c.loop-net.invariant
    (below_cap (2 ^ 64 - 1) c.width_of.result (net_width c.net-item.result) c.width_of.ensures.width c.width_of.type_inv) c.saturating_add-total.ensures

pub returns : goal.returns
returns c = record { bits = share_end net_width c.args.nets.now c.loop-net.net-index (2 ^ 64 - 1) c.loop-net.total c.loop-net-test.false c.loop-net.invariant }
