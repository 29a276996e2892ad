-- Where a bit is read, its place in the list is read, given that the clock of each register is among the clocks.
use Rattle.std.proofs.Common.{ℕ, List, Contains, inl, inr}
use Rattle.bb_ast.specs.Syntax.{PlainAlways}
use Rattle.bb_net.specs.Loose.{LooseList}
use Rattle.bb_design.specs.Constructs.{Register, parts}
use Rattle.bb_design.specs.Hierarchy.{Design, Scope}
use Rattle.bb_design.specs.Inside.Allowed.{IsBounded}
use Rattle.bb_design.specs.NetBits.{Bit, written_bits}
use Rattle.bb_implements.specs.Places.{NetBit, Lowering, IsLowering, IsListOf}
use Rattle.bb_implements.specs.Inside.ReadPlaces.{IsReadPlace}
use Rattle.bb_design.specs.Reading.{IsReadBit, read_directly}
use Rattle.bb_design.specs.Refusals.{AreDrivenOnce}
use Rattle.bb_implements.proofs.ClockInputs.{join}
use Rattle.bb_implements.proofs.CopyWalks.{follows_at}
use Rattle.bb_implements.proofs.PlacesRead.{direct_place, data_read}
use Rattle.bb_design.specs.Laws.DesignLaws.{DesignLaws}

module _ (of_designs : DesignLaws) (d : Design) (lowering : Lowering) (l : LooseList) (list : IsListOf d lowering l) (lowered : IsLowering d lowering) (bounded : IsBounded d) (once : AreDrivenOnce d) (clocks : List ℕ)
    (timed : (s : Scope) (a : PlainAlways) → Contains (parts d) (s, Register a) → (b : Bit) → Contains (written_bits s a.clock) b → Contains clocks (list.number (NetBit b))) where
  directly : (b : Bit) → Contains (read_directly d) b → IsReadPlace l clocks (list.number (NetBit b))
  directly b at = direct_place of_designs d lowering l list lowered (of_designs.wired d bounded) clocks timed (data_read of_designs d lowering l list lowered (of_designs.wired d bounded) clocks (of_designs.bits_there d bounded) once) b at

  pub read_holds : (b : Bit) → IsReadBit d b → IsReadPlace l clocks (list.number (NetBit b))
  read_holds b (inl at) = directly b at
  read_holds b (inr read) =
      let at = directly read.0 read.1 in
      let follows = follows_at of_designs d lowering l list lowered (of_designs.wired d bounded) (of_designs.bits_there d bounded) once read.0 b (inr read.2) in
      (at.0, at.1, join of_designs d lowering l list at.0 (list.number (NetBit read.0)) (list.number (NetBit b)) at.2 follows)
