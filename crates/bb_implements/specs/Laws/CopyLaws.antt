-- Laws that link buffers in the list of cells of a design with buffers among its bits.
use Rattle.std.specs.Prelude.{◌↔◌, Contains}
use Rattle.bb_net.specs.Loose.{LooseList}
use Rattle.bb_design.specs.Hierarchy.{Design}
use Rattle.bb_design.specs.Inside.Allowed.{IsBounded}
use Rattle.bb_design.specs.NetBits.{Bit, net_order}
use Rattle.bb_implements.specs.Places.{NetBit, Lowering, IsLowering, IsListOf}
use Rattle.bb_implements.specs.Inside.ReadPlaces.{FollowsAt}
use Rattle.bb_design.specs.Refusals.{AreDrivenOnce}
use Rattle.bb_implements.specs.Implements.{IsCopyOf}

-- where a bit is a buffer of another, so is its place in the list, and the other way round
abbrev pub CopiesAreListed : Type 0
CopiesAreListed = (d : Design) (lowering : Lowering) (l : LooseList) → IsBounded d → AreDrivenOnce d → IsLowering d lowering → (list : IsListOf d lowering l)
    → (b c : Bit) → Contains (net_order d) b → Contains (net_order d) c → FollowsAt l.cells (list.number (NetBit b)) (list.number (NetBit c)) ↔ IsCopyOf d b c
