-- Contents of boxes as tables, one for each box in the order of a flat netlist, and laws of them.
use Rattle.std.specs.Prelude.{◌≡◌, ℕ, ◌<◌, Bool, List, length, map}
use Rattle.bb_bits.specs.Contents.{Contents}
use Rattle.bb_bits.specs.Tables.{TableBits, rows_of}
use Rattle.bb_net.specs.Netlists.{IsNetlist}
use Rattle.bb_net.specs.Values.{bit_of, value_of, flat_with, table_at, FitBoxes}
use Rattle.bb_net.specs.Flats.{FlatNet}
use Rattle.bb_design.specs.Hierarchy.{Design}
use Rattle.bb_implements.specs.Laws.ListLaws.{vector_bits, path_of, given_by_paths}
use Rattle.bb_design.specs.Inside.Allowed.{IsAllowed}
use Rattle.bb_design.specs.Refusals.{AreDistinctTexts, box_paths}
use Rattle.bb_implements.specs.Implements.{Implements}
use Rattle.bb_design.specs.Worlds.{World, Vector, HasVector, IsWorld, FitDesign, outputs_in}

-- the tables fit the boxes and have the rows that the contents have at the paths
pub record AreTablesOf (f : FlatNet) (contents : Contents) (tables : List TableBits) : Type 0 where
  pub fit : FitBoxes tables f.net.boxes
  pub rows : (b : ℕ) → b < length f.net.boxes → contents (path_of f b) ≡ rows_of (table_at tables b)

-- a netlist has the same value by the tables as by the contents
abbrev pub TablesGiveValues : Type 0
TablesGiveValues = (f : FlatNet) (contents : Contents) (tables : List TableBits) (x : List Bool) → IsNetlist f.net → AreTablesOf f contents tables
    → flat_with f.net x tables ≡ value_of f.net x (given_by_paths f contents)

-- contents that fit a design have tables in a netlist that implements it
abbrev pub ContentsHaveTables : Type 0
ContentsHaveTables = (d : Design) (f : FlatNet) → Implements d f → (contents : Contents) → FitDesign d contents → (tables : List TableBits) × AreTablesOf f contents tables

-- and tables that fit its boxes are those of contents that fit the design, where no two boxes have one path
abbrev pub TablesHaveContents : Type 0
TablesHaveContents = (d : Design) (f : FlatNet) → AreDistinctTexts (box_paths d) → Implements d f → (tables : List TableBits) → FitBoxes tables f.net.boxes
    → (contents : Contents) × FitDesign d contents × AreTablesOf f contents tables

-- in each world of a vector the cut outputs have the bits that the netlist gives by the tables of the contents
abbrev pub TablesGiveOutputs : Type 0
TablesGiveOutputs = (d : Design) (f : FlatNet) → IsAllowed d → Implements d f → (contents : Contents) (tables : List TableBits) → FitDesign d contents → AreTablesOf f contents tables
    → (x : Vector) (w : World) → IsWorld d contents w → HasVector d x w → map (λ o. o.1) (outputs_in d w) ≡ map (bit_of (flat_with f.net (vector_bits d x) tables)) f.net.outs
