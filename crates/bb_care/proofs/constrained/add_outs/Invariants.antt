use Rattle.std.proofs.Common.{◌≡◌, ◌++◌}
use Rattle.std.specs.List.{range_with_len}
use Rattle.bb_net.specs.Netlists.{Netlist}
use Rattle.bb_care.proofs.constrained.add_outs.Given as goal

abbrev pub invariant-loop-j : goal.invariant-loop-j
invariant-loop-j l = ◌≡◌ {A = Netlist} l.net (record l.initial.net { outs = l.initial.net.outs ++ range_with_len l.first l.j })
