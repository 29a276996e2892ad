use Rattle.std.proofs.Common.{◌≡◌, ◌++◌, map, take}
use Rattle.std.specs.Prelude.{slice_index}
use Rattle.bb_net.specs.Netlists.{Netlist}
use Rattle.bb_subst.proofs.filling.add_outs.Given as goal

abbrev pub invariant-loop-out : goal.invariant-loop-out
invariant-loop-out l = ◌≡◌ {A = Netlist} l.new (record l.initial.new { outs = l.initial.new.outs ++ map (slice_index l.places) (take l.out-index l.outs) })
