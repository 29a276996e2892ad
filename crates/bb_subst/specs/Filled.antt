-- A netlist whose boxes are filled with tables: each output pin of a box is a multiplexer tree over its column of the
-- table.
use Rattle.std.specs.Prelude.{◌≡◌, ◌⊎◌, ℕ, ◌+◌, ◌<◌, ◌≤◌, List, [], length, map}
use Rattle.bb_bits.specs.Tables.{TableBits, column}
use Rattle.bb_net.specs.Completions.{table_bits}
use Rattle.bb_net.specs.declared.cell.Cell.TheVariants.{BoxOut}
use Rattle.bb_net.specs.Netlists.{Netlist, box_at, cell_at}
use Rattle.bb_net.specs.Values.{table_at}
use Rattle.bb_subst.specs.Embeddings.{OccursIn}
use Rattle.bb_subst.specs.Trees.{IsTree, IsInTree}

-- a place of the new netlist is that of an old cell, or is in the tree of an output pin
abbrev pub IsPlaceOf : Netlist → Netlist → (ℕ → ℕ) → ℕ → ℕ → Type 0
IsPlaceOf old new at count place = ((k : ℕ) × (k < count) × (place ≡ at k))
    ⊎ ((k b p : ℕ) × (k < count) × (cell_at old.cells k ≡ BoxOut b p) × IsInTree new.cells (map at (box_at old.boxes b).ins) (at k) place)

-- the new netlist is the old one with the tables in its boxes, where at gives the new place of each old one
pub record IsFilled (old : Netlist) (tables : List TableBits) (new : Netlist) (at : ℕ → ℕ) : Type 0 where
  pub occurs : OccursIn old new at
  pub trees : (k b p : ℕ) → k < length old.cells → cell_at old.cells k ≡ BoxOut b p → IsTree new.cells (map at (box_at old.boxes b).ins) (column (table_at tables b) p) (at k)
  -- and nothing else is there: bounds of checks count the nodes of all cells, so a cell too many could change what a
  -- check says
  pub only : (place : ℕ) → place < length new.cells → IsPlaceOf old new at (length old.cells) place
  pub boxes : new.boxes ≡ []
  pub outs : new.outs ≡ map at old.outs
  -- a pin with n inputs takes at most 2^n cells
  pub few : length new.cells ≤ length old.cells + table_bits old.boxes
