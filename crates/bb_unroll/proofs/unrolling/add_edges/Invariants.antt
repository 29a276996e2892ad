use Rattle.std.proofs.Common.{◌≡◌, ◌+◌, ◌*◌, ◌≤◌, length}
use Rattle.bb_net.specs.Netlists.{Netlist}
use Rattle.bb_unroll.specs.Inside.Building.{unrolled_before}
use Rattle.bb_unroll.specs.Unrolled.{first_edge}
use Rattle.bb_unroll.proofs.unrolling.add_edges.Given as goal

abbrev pub invariant-loop-i : goal.invariant-loop-i
invariant-loop-i l = (◌≡◌ {A = Netlist} l.net (unrolled_before l.spec (first_edge l.spec + 2 * l.i))) × (l.i ≤ length l.spec.ins)
