use Rattle.std.proofs.Common.{◌≡◌, ◌+◌, ◌≤◌, length}
use Rattle.bb_net.specs.Netlists.{Netlist}
use Rattle.bb_unroll.specs.Inside.Building.{unrolled_before}
use Rattle.bb_unroll.specs.Unrolled.{first_state}
use Rattle.bb_unroll.proofs.unrolling.add_states.Given as goal

abbrev pub invariant-loop-j : goal.invariant-loop-j
invariant-loop-j l = (◌≡◌ {A = Netlist} l.net (unrolled_before l.spec (first_state l.spec + l.j))) × (l.j-end ≡ length l.spec.regs) × (l.j ≤ length l.spec.regs)
