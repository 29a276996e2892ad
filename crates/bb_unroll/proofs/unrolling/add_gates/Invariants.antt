use Rattle.std.proofs.Common.{◌≡◌, ◌+◌, ◌-◌, ◌≤◌, length}
use Rattle.bb_net.specs.Netlists.{Netlist}
use Rattle.bb_unroll.specs.Inside.Building.{gates_begin, unrolled_before}
use Rattle.bb_unroll.specs.Unrolled.{first_gate}
use Rattle.bb_unroll.proofs.unrolling.add_gates.Given as goal

abbrev pub invariant-loop-k : goal.invariant-loop-k
invariant-loop-k l =
    (◌≡◌ {A = Netlist} l.net (unrolled_before l.spec (gates_begin l.spec l.frame + (l.k - first_gate l.spec)))) × (l.k-end ≡ length l.spec.net.cells) × (first_gate l.spec ≤ l.k) × (l.k ≤ length l.spec.net.cells)
