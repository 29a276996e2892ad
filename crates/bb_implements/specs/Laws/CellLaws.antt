-- Laws of the list of cells of a design: which places are read, where the bits of nets are, and where clocks come from.
use Rattle.std.specs.Prelude.{◌≡◌, ◌↔◌, ℕ, ◌+◌, ◌<◌, ◌≤◌, List, get_or, length, Contains, Option, Some, IfNone, IfSome, slice_get}
use Rattle.bb_ast.specs.Syntax.{PlainAlways}
use Rattle.bb_net.specs.declared.loose.LooseCell.{LooseCell}
use Rattle.bb_net.specs.declared.loose.LooseCell.TheVariants.{Copy}
use Rattle.bb_net.specs.Loose.{LooseList}
use Rattle.bb_design.specs.Inside.Allowed.{IsBounded}
use Rattle.bb_design.specs.Constructs.{Register, parts}
use Rattle.bb_design.specs.Hierarchy.{Design, Scope}
use Rattle.bb_design.specs.NetBits.{Bit, net_order, top_inputs, written_bits}
use Rattle.bb_design.specs.Reading.{IsReadBit, read_directly}
use Rattle.bb_design.specs.Refusals.{AreDrivenOnce}
use Rattle.bb_design.specs.Registers.{cut_bits}
use Rattle.bb_implements.specs.Places.{NetBit, Lowering, IsLowering, IsListOf}
use Rattle.bb_implements.specs.Inside.ReadPlaces.{copy_steps, FollowsAt, IsReadPlace}
use Rattle.bb_implements.specs.Implements.{IsClockInput}

-- the bits of nets are in net order after the constants and the inputs
abbrev pub NetBitsAreInOrder : Type 0
NetBitsAreInOrder = (d : Design) (lowering : Lowering) (l : LooseList) (list : IsListOf d lowering l) (k : ℕ) (b : Bit) → slice_get (net_order d) k ≡ Some b
    → (list.number (NetBit b) ≡ (2 + length (cut_bits d)) + k) × ((2 + length (cut_bits d)) + k < length l.cells)

-- all of them are places of the list
abbrev pub ListsHoldTheirNets : Type 0
ListsHoldTheirNets = (d : Design) (lowering : Lowering) (l : LooseList) → IsListOf d lowering l → (2 + length (cut_bits d)) + length (net_order d) ≤ length l.cells

-- the inputs of the top are inputs of the list
abbrev pub TopInputsAreInputs : Type 0
TopInputsAreInputs = (d : Design) (lowering : Lowering) (l : LooseList) → IsListOf d lowering l → (limit : ℕ) → limit ≡ length (top_inputs d) → limit ≤ l.inputs

-- a step along buffers leads from a buffer to the place that it buffers
abbrev pub CopyStepsAreCopies : Type 0
CopyStepsAreCopies = (cells : List LooseCell) (j k : ℕ) (c : LooseCell) → Contains (copy_steps cells) (j, k) ↔ ((j < length cells) × (get_or cells j c ≡ Copy k))

-- a bit whose place is read is read, where a bit that is read directly is at each clock
abbrev pub ReadPlacesAreReadBits : Type 0
ReadPlacesAreReadBits = (d : Design) (lowering : Lowering) (l : LooseList) (list : IsListOf d lowering l) → IsLowering d lowering → IsBounded d
    → (clocks : List ℕ) → ((q : ℕ) → Contains clocks q → (b : Bit) × (list.number (NetBit b) ≡ q) × Contains (read_directly d) b)
    → (e : Bit) → Contains (net_order d) e → IsReadPlace l clocks (list.number (NetBit e)) → IsReadBit d e

-- and the place of a bit that is read is read, where the clock of each register is among the clocks
abbrev pub ReadBitsHaveReadPlaces : Type 0
ReadBitsHaveReadPlaces = (d : Design) (lowering : Lowering) (l : LooseList) (list : IsListOf d lowering l) → IsLowering d lowering → IsBounded d → AreDrivenOnce d
    → (clocks : List ℕ) → ((s : Scope) (a : PlainAlways) → Contains (parts d) (s, Register a) → (b : Bit) → Contains (written_bits s a.clock) b → Contains clocks (list.number (NetBit b)))
    → (b : Bit) → IsReadBit d b → IsReadPlace l clocks (list.number (NetBit b))

-- a clock comes from the input of the top to whose place buffers lead from its own, and from none where they lead to
-- none
abbrev pub ClocksGoByPlaces : Type 0
ClocksGoByPlaces = (d : Design) (lowering : Lowering) (l : LooseList) (list : IsListOf d lowering l) → IsBounded d → AreDrivenOnce d → IsLowering d lowering
    → (b : Bit) (k : ℕ) → slice_get (net_order d) k ≡ Some b → (o : Option ℕ) (limit place : ℕ) → limit ≡ length (top_inputs d) → place ≡ list.number (NetBit b)
    → IfSome o (λ i. (i < limit) × FollowsAt l.cells place (i + 2)) → IfNone o ((i : ℕ) → i < limit → FollowsAt l.cells place (i + 2) → ⊥) → IsClockInput d b o

-- these laws as one record, which a lemma takes as one argument
pub record CellLaws : Type 0 where
  pub net_places : NetBitsAreInOrder
  pub nets_fit : ListsHoldTheirNets
  pub few_inputs : TopInputsAreInputs
  pub copies : CopyStepsAreCopies
  pub read_places : ReadPlacesAreReadBits
  pub read_bits : ReadBitsHaveReadPlaces
  pub clocks : ClocksGoByPlaces
