-- When boxes are nested. Two cells are the same where they have one bit at every vector, whatever the boxes give: they
-- are one Boolean function of the inputs and of the outputs of the boxes. A box sees a cell that is the same as one of
-- its input pins. Boxes are nested where each has a table of its own and sees all pins of the boxes before it, so that
-- its input bits determine all bits at these.
use Rattle.std.specs.Prelude.{◌≡◌, ◌≢◌, ◌<◌, ℕ, Bool, List, ◌++◌, length, All, AllPairs, Contains}
use Rattle.bb_net.specs.Equivalence.{IsVector, AreBoxOutputs}
use Rattle.bb_net.specs.Netlists.{Netlist, Pins, box_at}
use Rattle.bb_net.specs.Values.{bit_of, flat}

-- two cells have one bit at every vector and for all bits at the output pins of the boxes
abbrev pub AreSame : Netlist → ℕ → ℕ → Type 0
AreSame net a b = (x z : List Bool) → IsVector net x → AreBoxOutputs net z → bit_of (flat net x z) a ≡ bit_of (flat net x z) b

-- a box sees a cell
abbrev pub Sees : Netlist → Pins → ℕ → Type 0
Sees net box cell = (seen : ℕ) × Contains box.ins seen × AreSame net seen cell

-- the cells at the pins of a box, its input pins first
abbrev pub pin_cells : Pins → List ℕ
pin_cells box = box.ins ++ box.outs

-- boxes with these sharing classes are nested
pub record AreNested (net : Netlist) (kinds : List ℕ) : Type 0 where
  pub apart : AllPairs ◌≢◌ kinds
  pub seen : (a b : ℕ) → a < b → b < length net.boxes → All (Sees net (box_at net.boxes b)) (pin_cells (box_at net.boxes a))

-- the same by cells: the cell at each pin of a box is at an input pin of each later one
pub record AreNestedByCells (net : Netlist) (kinds : List ℕ) : Type 0 where
  pub apart : AllPairs ◌≢◌ kinds
  pub seen : (a b : ℕ) → a < b → b < length net.boxes → All (Contains (box_at net.boxes b).ins) (pin_cells (box_at net.boxes a))
