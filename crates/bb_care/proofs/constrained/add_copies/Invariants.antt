use Rattle.std.proofs.Common.{◌≡◌, ◌+◌, ◌-◌, ◌≤◌, ◌++◌, length, map, take, drop}
use Rattle.bb_subst.specs.Embeddings.{renumbered}
use Rattle.bb_net.specs.Netlists.{Netlist}
use Rattle.bb_care.specs.Constrained.{copy_place}
use Rattle.bb_care.proofs.constrained.add_copies.Given as goal

abbrev pub invariant-loop-k : goal.invariant-loop-k
invariant-loop-k l =
    (◌≡◌ {A = Netlist} l.imp (record l.initial.imp {
      cells = l.initial.imp.cells ++ map (renumbered (copy_place l.spec l.initial.imp)) (take (l.k - (l.spec.inputs + 2)) (drop (l.spec.inputs + 2) l.spec.cells));
    })) × (l.k-end ≡ length l.spec.cells) × (l.spec.inputs + 2 ≤ l.k) × (l.k ≤ length l.spec.cells)
