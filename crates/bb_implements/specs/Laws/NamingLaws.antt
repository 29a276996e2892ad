-- Laws of names: flat netlists that implement one design name everything the same, in one order. Only the order of
-- their cells, and how expressions are lowered, is left open.
use Rattle.std.specs.Prelude.{◌≡◌, ℕ, Contains}
use Rattle.bb_net.specs.Loose.{LooseList, NeedsBox}
use Rattle.bb_net.specs.Flats.{FlatNet, AreNamed}
use Rattle.bb_design.specs.Hierarchy.{Design}
use Rattle.bb_design.specs.Inside.Allowed.{IsBounded, IsAllowed}
use Rattle.bb_implements.specs.Places.{Lowering, IsLowering, IsListOf}
use Rattle.bb_design.specs.NetBits.{Bit, top_inputs}
use Rattle.bb_design.specs.Refusals.{AreDrivenOnce}
use Rattle.bb_implements.specs.Implements.{IsCopyOf, Implements}

-- inputs, outputs and boxes have the same texts in the same order, and so have registers, which have the same edges and
-- clocks too
pub record AreNamedTheSame (f g : FlatNet) : Type 0 where
  pub inputs : f.net.inputs ≡ g.net.inputs
  pub ins : f.ins ≡ g.ins
  pub regs : f.regs ≡ g.regs
  pub outs : f.outs ≡ g.outs
  pub boxes : f.boxes ≡ g.boxes

-- a box depends on another in every list of the cells of a design or in none
abbrev pub BoxNeedsAreOne : Type 0
BoxNeedsAreOne = (d : Design) (lowering other : Lowering) (l m : LooseList) → IsBounded d → AreDrivenOnce d → IsLowering d lowering → IsListOf d lowering l → IsLowering d other → IsListOf d other m
    → (c b : ℕ) → NeedsBox l c b → NeedsBox m c b

-- a bit is, directly or through buffers, one input of the top at most
abbrev pub FollowedInputsAreOne : Type 0
FollowedInputsAreOne = (d : Design) → AreDrivenOnce d → (b c e : Bit) → Contains (top_inputs d) c → Contains (top_inputs d) e → IsCopyOf d b c → IsCopyOf d b e → c ≡ e

-- in a netlist that implements a design everything has its text
abbrev pub ImplementingNetsAreNamed : Type 0
ImplementingNetsAreNamed = (d : Design) (f : FlatNet) → IsAllowed d → Implements d f → AreNamed f

-- netlists that implement one design name everything the same
abbrev pub ImplementingNetsAreNamedTheSame : Type 0
ImplementingNetsAreNamedTheSame = (d : Design) (f g : FlatNet) → IsAllowed d → Implements d f → Implements d g → AreNamedTheSame f g
