-- By this file laws of copies and of cells promise to crates above; no clause of `elaborate` rests on it.
-- Which places of a list of cells are read: where a cell that is no buffer reads, at the input pins of boxes, at
-- outputs and clocks, and, where a buffer is read, the place that it buffers.
use Rattle.std.specs.Prelude.{◌≡◌, ◌⊎◌, ◌<◌, ℕ, Bool, true, false, List, [], ◌∷◌, ◌++◌, map, length, Contains, slice_index_or}
use Rattle.std.specs.List.{enumerate_from, flat_map}
use Rattle.bb_net.specs.declared.loose.LooseCell.{LooseCell}
use Rattle.bb_net.specs.declared.loose.LooseCell.TheVariants.{Const, Input, Not, And, Or, Xor, Mux, BoxOut, Copy}
use Rattle.bb_net.specs.Loose.{LooseList}
use Rattle.bb_bits.specs.Closures.{Leads}

-- what a cell that is no buffer reads, but for the pins of its box
abbrev pub read_by : LooseCell → List ℕ
read_by (Const b) = []
read_by (Input i) = []
read_by (Not a) = a ∷ []
read_by (And a b) = a ∷ b ∷ []
read_by (Or a b) = a ∷ b ∷ []
read_by (Xor a b) = a ∷ b ∷ []
read_by (Mux c t e) = c ∷ t ∷ e ∷ []
read_by (BoxOut b p) = []
read_by (Copy p) = []

abbrev pub copied_by : LooseCell → List ℕ
copied_by (Const b) = []
copied_by (Input i) = []
copied_by (Not a) = []
copied_by (And a b) = []
copied_by (Or a b) = []
copied_by (Xor a b) = []
copied_by (Mux c t e) = []
copied_by (BoxOut b p) = []
copied_by (Copy p) = p ∷ []

-- each buffer with the place that it buffers
abbrev pub copy_steps : List LooseCell → List (ℕ × ℕ)
copy_steps cells = flat_map (λ x. map (λ k. (x.0, k)) (copied_by x.1)) (enumerate_from 0 cells)

-- the places that are read directly, where the clocks of registers are at these
abbrev pub read_places : LooseList → List ℕ → List ℕ
read_places l clocks = flat_map read_by l.cells ++ (flat_map (λ b. b.ins) l.boxes ++ (l.outs ++ clocks))

-- a place is another, or a buffer of it, directly or through other buffers
abbrev pub FollowsAt : List LooseCell → ℕ → ℕ → Type 0
FollowsAt cells j k = (j ≡ k) ⊎ Leads (copy_steps cells) j k

abbrev pub IsReadPlace : LooseList → List ℕ → ℕ → Type 0
IsReadPlace l clocks k = (j : ℕ) × Contains (read_places l clocks) j × FollowsAt l.cells j k

-- buffers of what is marked lead to what is marked, where that is in the list
abbrev pub AreClosed : List LooseCell → List Bool → Type 0
AreClosed cells marks = (j k : ℕ) → slice_index_or marks j false ≡ true → Contains (copy_steps cells) (j, k) → k < length marks → slice_index_or marks k false ≡ true
