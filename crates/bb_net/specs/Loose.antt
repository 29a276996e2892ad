-- An unordered netlist: a list of cells in any order. A cell names others by their places, before or after it, and a
-- buffer (copy) has the value of the cell that it names. The constants and the inputs come first, as in a netlist.
-- Boxes are as in a netlist, in any order.
use Rattle.std.specs.Prelude.{◌≡◌, ℕ, ◌+◌, ◌<◌, ◌^◌, zero, suc, Bool, true, false, ◌&&◌, ◌||◌, not, if◌then◌else◌, List, [], ◌∷◌, length, take, map, All, Contains}
use Rattle.std.specs.List.{range_with_len, slice_index_or}
use Rattle.bb_net.specs.declared.loose.LooseCell.{LooseCell}
use Rattle.bb_net.specs.declared.loose.LooseCell.TheVariants.{Const, Input, Not, And, Or, Xor, Mux, BoxOut, Copy}
use Rattle.bb_net.specs.Netlists.{Pins, box_at, IsPinAt}
use Rattle.bb_net.specs.Values.{bit_of, xor}

pub record LooseList : Type 0 where
  pub inputs : ℕ
  pub cells : List LooseCell
  pub boxes : List Pins
  pub outs : List ℕ

-- the cell at a place; a constant past the end
abbrev pub loose_at : LooseList → ℕ → LooseCell
loose_at l place = slice_index_or l.cells place (Const false)

-- the places that a cell reads
abbrev pub operand_places : List Pins → LooseCell → List ℕ
operand_places boxes (Const b) = []
operand_places boxes (Input i) = []
operand_places boxes (Not a) = a ∷ []
operand_places boxes (And a b) = a ∷ b ∷ []
operand_places boxes (Or a b) = a ∷ b ∷ []
operand_places boxes (Xor a b) = a ∷ b ∷ []
operand_places boxes (Mux c t e) = c ∷ t ∷ e ∷ []
operand_places boxes (BoxOut b p) = (box_at boxes b).ins
operand_places boxes (Copy p) = p ∷ []

-- what such a list has to be
pub record IsLoose (l : LooseList) : Type 0 where
  -- it begins with the constants and the inputs
  pub prefix : take (l.inputs + 2) l.cells ≡ Const false ∷ Const true ∷ map Input (range_with_len 0 l.inputs)
  -- all places are in the list, and an input is one of its inputs
  pub there : (place : ℕ) → place < length l.cells → All (λ k. k < length l.cells) (operand_places l.boxes (loose_at l place))
  pub inputs_there : (place i : ℕ) → place < length l.cells → loose_at l place ≡ Input i → i < l.inputs
  pub outs_there : All (λ place. place < length l.cells) l.outs
  pub pins_there : (b : ℕ) → All (λ pin. pin < length l.cells) (box_at l.boxes b).ins
  -- the output pins of the boxes and the cells BoxOut are one to one
  pub listed : (place b p : ℕ) → place < length l.cells → loose_at l place ≡ BoxOut b p → IsPinAt l.boxes b p place
  pub driven : (b p place : ℕ) → IsPinAt l.boxes b p place → (place < length l.cells) × (loose_at l place ≡ BoxOut b p)
  -- places and boxes are counted in 32 bits
  pub cells_fit : length l.cells < 2 ^ 32
  pub boxes_fit : length l.boxes < 2 ^ 32

-- a walk of this many steps of dependence leads from one place to another: from a cell to one that it reads, and so
-- from the output of a box to each of its inputs
abbrev pub Reaches : ℕ → LooseList → ℕ → ℕ → Type 0
Reaches zero l from to = from ≡ to
Reaches (suc n) l from to = (place : ℕ) × Contains (operand_places l.boxes (loose_at l from)) place × Reaches n l place to

-- a place depends on another, directly or through others
abbrev pub PlaceDependsOn : LooseList → ℕ → ℕ → Type 0
PlaceDependsOn l from to = (n : ℕ) × Reaches (suc n) l from to

-- the place lies on a closed walk of dependence
abbrev pub IsOnClosedWalk : LooseList → ℕ → Type 0
IsOnClosedWalk l place = (place < length l.cells) × (n : ℕ) × Reaches (suc n) l place place

-- it is the least place on one
pub record IsLeastOnClosedWalk (l : LooseList) (place : ℕ) : Type 0 where
  pub on : IsOnClosedWalk l place
  pub least : (k : ℕ) → k < place → IsOnClosedWalk l k → ⊥

-- box c depends on box d: an input pin of c leads to an output of d
abbrev pub NeedsBox : LooseList → ℕ → ℕ → Type 0
NeedsBox l c d = (pin place n p : ℕ) × Contains (box_at l.boxes c).ins pin × Reaches n l pin place × (place < length l.cells) × (loose_at l place ≡ BoxOut d p)

-- the bit of a cell, where value gives the bits of the places that it reads
abbrev pub loose_gate : List Pins → List Bool → (ℕ → ℕ → List Bool → Bool) → (ℕ → Bool) → LooseCell → Bool
loose_gate boxes x box value (Const b) = b
loose_gate boxes x box value (Input i) = bit_of x i
loose_gate boxes x box value (Not a) = not (value a)
loose_gate boxes x box value (And a b) = value a && value b
loose_gate boxes x box value (Or a b) = value a || value b
loose_gate boxes x box value (Xor a b) = xor (value a) (value b)
loose_gate boxes x box value (Mux c t e) = if value c then value t else value e
loose_gate boxes x box value (BoxOut b p) = box b p (map value (box_at boxes b).ins)
loose_gate boxes x box value (Copy p) = value p

-- bits meet the equations of the list: one bit for each cell, which is its gate's function of the bits that it reads
pub record IsLooseValue (l : LooseList) (x : List Bool) (box : ℕ → ℕ → List Bool → Bool) (bits : List Bool) : Type 0 where
  pub whole : length bits ≡ length l.cells
  pub each : (place : ℕ) → place < length l.cells → bit_of bits place ≡ loose_gate l.boxes x box (bit_of bits) (loose_at l place)
