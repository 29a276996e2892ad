-- A multiplexer tree: the bits of a column, one for each list of bits at some pins, chosen pin by pin. The first pin
-- chooses between the two halves of the column, and so is the most significant.
use Rattle.std.specs.Prelude.{◌≡◌, ◌⊎◌, ℕ, ◌<◌, Bool, List, [], ◌∷◌, ◌++◌, length}
use Rattle.bb_net.specs.declared.cell.Cell.{Cell}
use Rattle.bb_net.specs.declared.cell.Cell.TheVariants.{Const, Mux}
use Rattle.bb_net.specs.Netlists.{cell_at}

-- the cell at a place is such a tree: a constant, or the upper half where the first pin is 1 and the lower half where
-- it is 0
abbrev pub IsTree : List Cell → List ℕ → List Bool → ℕ → Type 0
IsTree cells [] column place = (place < length cells) × (bit : Bool) × (column ≡ bit ∷ []) × (cell_at cells place ≡ Const bit)
IsTree cells (pin ∷ pins) column place = (place < length cells) × (lower upper : List Bool) × (low high : ℕ) × (column ≡ lower ++ upper) × (length lower ≡ length upper)
    × (cell_at cells place ≡ Mux pin high low) × IsTree cells pins lower low × IsTree cells pins upper high

-- a place in such a tree: that of the tree itself, or one in either half
abbrev pub IsInTree : List Cell → List ℕ → ℕ → ℕ → Type 0
IsInTree cells [] root place = place ≡ root
IsInTree cells (pin ∷ pins) root place = (place ≡ root) ⊎ ((low high : ℕ) × (cell_at cells root ≡ Mux pin high low) × (IsInTree cells pins low place ⊎ IsInTree cells pins high place))
