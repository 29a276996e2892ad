use Rattle.std.proofs.Common.{◌≡◌, take}
use Rattle.bb_net.specs.Netlists.{Netlist}
use Rattle.bb_mux.proofs.netlist.with_outs.Given as goal

abbrev pub invariant-loop-out : goal.invariant-loop-out
invariant-loop-out l = ◌≡◌ {A = Netlist} l.net (record l.fn.net { outs = take l.out-index l.fn.outs })
