-- How a netlist is filled cell by cell.
use Rattle.std.specs.Prelude.{◌≡◌, ℕ, ◌+◌, ◌^◌, ◌<◌, ◌≤◌, false, true, List, [], ◌++◌, length, map, take, sum_by, All, slice_index}
use Rattle.bb_bits.specs.Tables.{TableBits, column}
use Rattle.bb_net.specs.declared.cell.Cell.{Cell}
use Rattle.bb_net.specs.declared.cell.Cell.TheVariants.{Const, Input, Not, And, Or, Xor, Mux, BoxOut}
use Rattle.bb_net.specs.Completions.{table_bits}
use Rattle.bb_net.specs.Netlists.{Netlist, IsNetlist, Pins, cell_at, box_at}
use Rattle.bb_net.specs.Values.{table_at}
use Rattle.bb_subst.specs.Embeddings.{OccursAt}
use Rattle.bb_subst.specs.Filled.{IsPlaceOf}
use Rattle.bb_subst.specs.Trees.{IsTree}

-- the constants come first
pub record HasConstants (cells : List Cell) : Type 0 where
  pub long : 2 ≤ length cells
  pub zero : cell_at cells 0 ≡ Const false
  pub one : cell_at cells 1 ≡ Const true

-- at most this many cells more come after those of a netlist without boxes and outputs
pub record GrowsBy (old new : Netlist) (count : ℕ) : Type 0 where
  pub inputs : new.inputs ≡ old.inputs
  pub boxes : new.boxes ≡ old.boxes
  pub outs : new.outs ≡ old.outs
  pub more : List Cell
  pub cells : new.cells ≡ old.cells ++ more
  pub few : length more ≤ count

-- how many cells implement a cell at most
abbrev pub cost : List Pins → Cell → ℕ
cost boxes (Const b) = 1
cost boxes (Input i) = 1
cost boxes (Not a) = 1
cost boxes (And a b) = 1
cost boxes (Or a b) = 1
cost boxes (Xor a b) = 1
cost boxes (Mux c t e) = 1
cost boxes (BoxOut b p) = 2 ^ length (box_at boxes b).ins

-- this many cells of the old netlist are in the new one at these places
pub record IsFilledUpTo (old : Netlist) (tables : List TableBits) (count : ℕ) (new : Netlist) (places : List ℕ) : Type 0 where
  pub inputs : new.inputs ≡ old.inputs
  pub boxes : new.boxes ≡ []
  pub outs : new.outs ≡ []
  pub constants : HasConstants new.cells
  pub long : length places ≡ count
  pub there : All (λ k. k < length new.cells) places
  pub cells : (k : ℕ) → k < count → OccursAt new.cells (slice_index places) (cell_at old.cells k) (slice_index places k)
  pub trees : (k b p : ℕ) → k < count → cell_at old.cells k ≡ BoxOut b p
      → IsTree new.cells (map (slice_index places) (box_at old.boxes b).ins) (column (table_at tables b) p) (slice_index places k)
  pub only : (place : ℕ) → place < length new.cells → IsPlaceOf old new (slice_index places) count place
  pub few : length new.cells ≤ sum_by (cost old.boxes) (take count old.cells)

-- a cell for each cell and for each bit of tables is room enough, since a box has its output pins once each
abbrev pub CostsAreFew : Type 0
CostsAreFew = (net : Netlist) → IsNetlist net → sum_by (cost net.boxes) net.cells ≤ length net.cells + table_bits net.boxes
