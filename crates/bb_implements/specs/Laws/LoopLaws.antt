-- Laws that link loops in the list of cells of a design with combinational loops among its bits.
use Rattle.std.specs.Prelude.{◌≡◌, ℕ, ◌+◌, ◌↔◌, Contains, Some, slice_get}
use Rattle.bb_net.specs.Loose.{LooseList, IsOnClosedWalk, IsLeastOnClosedWalk}
use Rattle.bb_bits.specs.Closures.{IsFirst}
use Rattle.bb_design.specs.Hierarchy.{Design}
use Rattle.bb_design.specs.Inside.Allowed.{IsBounded}
use Rattle.bb_design.specs.Dependence.{IsOnLoop}
use Rattle.bb_design.specs.NetBits.{Bit, net_order}
use Rattle.bb_implements.specs.Places.{NetBit, Lowering, IsLowering, IsListOf}
use Rattle.bb_design.specs.Refusals.{AreDrivenOnce, IsAcyclic}

-- a design whose list has no closed walk has no loop
abbrev pub ListsWithoutWalks : Type 0
ListsWithoutWalks = (d : Design) (lowering : Lowering) (l : LooseList) → IsBounded d → AreDrivenOnce d → IsLowering d lowering → IsListOf d lowering l
    → ((k : ℕ) → IsOnClosedWalk l k → ⊥) → IsAcyclic d

-- a bit is on a loop where its place is on a closed walk
abbrev pub ListWalksAreLoops : Type 0
ListWalksAreLoops = (d : Design) (lowering : Lowering) (l : LooseList) → IsBounded d → AreDrivenOnce d → IsLowering d lowering → (list : IsListOf d lowering l)
    → (b : Bit) → Contains (net_order d) b → IsOnClosedWalk l (list.number (NetBit b)) ↔ IsOnLoop d b

-- the least place on a closed walk is that of the first bit on a loop
abbrev pub LeastWalksAreFirstLoops : Type 0
LeastWalksAreFirstLoops = (d : Design) (lowering : Lowering) (l : LooseList) → IsBounded d → AreDrivenOnce d → IsLowering d lowering → IsListOf d lowering l
    → (k : ℕ) → IsLeastOnClosedWalk l k → (n : ℕ) × (b : Bit) × (k ≡ l.inputs + 2 + n) × (slice_get (net_order d) n ≡ Some b) × IsFirst (IsOnLoop d) (net_order d) b
