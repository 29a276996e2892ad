use Rattle.std.proofs.Common.{◌≡◌, take}
use Rattle.std.specs.Prelude.{if◌then◌else◌, sum_by}
use Rattle.bb_names.specs.declared.net.NetInfo.{NetInfo}
use Rattle.bb_expr.specs.Inside.Shares.{capped}
use Rattle.bb_hier.specs.Inside.Weights.{net_width, is_input_net, is_output_net}
use Rattle.bb_hier.proofs.size.port_bits.Given as goal

abbrev pub invariant-loop-net : goal.invariant-loop-net
invariant-loop-net l = l.total ≡ capped (sum_by (λ (net : NetInfo). if (if l.inputs then is_input_net net else is_output_net net) then net_width net else 0) (take l.net-index l.nets))
