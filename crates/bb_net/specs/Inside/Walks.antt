-- A search along dependence, from one place of a list of cells.
use Rattle.std.specs.Prelude.{◌≡◌, ℕ, ◌+◌, ◌<◌, ◌≤◌, ◌⊎◌, suc, Bool, true, not, List, length, Contains, slice_index}
use Rattle.std.specs.List.{count_by}
use Rattle.bb_net.specs.Netlists.{box_at}
use Rattle.bb_net.specs.Values.{bit_of}
use Rattle.bb_net.specs.Loose.{LooseList, loose_at, operand_places, Reaches}

-- how many places were not seen
abbrev pub unseen : List Bool → ℕ
unseen seen = count_by not seen

-- places are seen now, and those of them that were not seen before are on the stack
pub record IsMarked (places : List ℕ) (old : List Bool) (before : List ℕ) (new : List Bool) (after : List ℕ) : Type 0 where
  pub whole : length new ≡ length old
  pub stays : (k : ℕ) → bit_of old k ≡ true → bit_of new k ≡ true
  pub marked : (k : ℕ) → Contains places k → bit_of new k ≡ true
  pub only : (k : ℕ) → bit_of new k ≡ true → bit_of old k ≡ true ⊎ (Contains places k × Contains after k)
  pub kept : (k : ℕ) → Contains before k → Contains after k
  pub pushed : (k : ℕ) → Contains after k → Contains before k ⊎ Contains places k
  pub work : unseen new + length after ≡ unseen old + length before

-- a walk of one step or more leads to each place that was seen, and what a seen place reads was seen too, unless the
-- place still is on the stack
pub record IsSearched (l : LooseList) (start : ℕ) (seen : List Bool) (stack : List ℕ) : Type 0 where
  pub whole : length seen ≡ length l.cells
  pub there : (k : ℕ) → Contains stack k → k < length l.cells
  pub on_stack : (k : ℕ) → Contains stack k → bit_of seen k ≡ true
  pub reached : (k : ℕ) → bit_of seen k ≡ true → (n : ℕ) × Reaches (suc n) l start k
  pub begun : (a : ℕ) → Contains (operand_places l.boxes (loose_at l start)) a → bit_of seen a ≡ true
  pub closed : (k : ℕ) → bit_of seen k ≡ true → Contains stack k ⊎ ((a : ℕ) → Contains (operand_places l.boxes (loose_at l k)) a → bit_of seen a ≡ true)

-- the cells at the input pins of the boxes that are done were seen
pub record AreDone (l : LooseList) (seen done : List Bool) : Type 0 where
  pub whole : length done ≡ length l.boxes
  pub pins : (b a : ℕ) → bit_of done b ≡ true → Contains (box_at l.boxes b).ins a → bit_of seen a ≡ true

-- no input pin of a box has a greater rank than the box
abbrev pub BoxesRise : LooseList → List ℕ → List ℕ → Type 0
BoxesRise l cells boxes = (b a : ℕ) → b < length l.boxes → Contains (box_at l.boxes b).ins a → slice_index cells a ≤ slice_index boxes b

-- no operand of a cell has a greater rank than the cell
abbrev pub CellsRise : LooseList → List ℕ → Type 0
CellsRise l ranks = (k a : ℕ) → k < length l.cells → Contains (operand_places l.boxes (loose_at l k)) a → slice_index ranks a ≤ slice_index ranks k
