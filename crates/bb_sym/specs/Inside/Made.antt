-- What calls of the diagram operations leave in a store: the tables that they made, by their beads, and the Refs that
-- mean functions.
use Rattle.std.specs.Prelude.{◌≡◌, ◌<◌, ◌↔◌, ◌⊎◌, ℕ, ◌+◌, ◌&&◌, ◌||◌, Bool, true, List, ◌++◌, length, map, slice_index_or}
use Rattle.std.specs.List.{range_with_len}
use Rattle.bb_bits.specs.Bits.{xor}
use Rattle.bb_bits.specs.Truth.{Truth, truth_at, IsBeadOfAny, constant, variable, complement_of_table, joined_tables, chosen}
use Rattle.bb_bits.specs.TruthSets.{HasMoreThan}
use Rattle.bb_net.specs.declared.cell.Cell.{Cell}
use Rattle.bb_net.specs.declared.cell.Cell.TheVariants.{Const, Input, Not, And, Or, Xor, Mux, BoxOut}
use Rattle.bb_net.specs.Netlists.{Netlist}
use Rattle.bb_sym.specs.Plain.{Function, Reading, IsReadSo, table, tables, cell_numbers, cell_bit, without_pins, differ, first_of}
use Rattle.bb_uniq.specs.declared.store.Ref.{Ref}
use Rattle.bb_uniq.specs.Inside.Nodes.{NodeStore, IsRef}
use Rattle.bb_uniq.specs.Inside.Meaning.{truth_of, IsHeld, Keeps}

-- the beads that are held, and those of further tables
abbrev pub IsHeldWithAny : NodeStore → List Truth → Truth → Type 0
IsHeldWithAny s ts b = IsHeld s b ⊎ IsBeadOfAny ts b

-- every Ref is kept, and the beads held are those from before and those of the tables
pub record Makes (old new : NodeStore) (ts : List Truth) : Type 0 where
  pub kept : Keeps old new
  pub beads : (b : Truth) → IsHeld new b ↔ IsHeldWithAny old ts b

-- the beads held and those of the tables are more than the limit
abbrev pub AreTooMany : NodeStore → List Truth → Type 0
AreTooMany s ts = HasMoreThan (IsHeldWithAny s ts) s.limit

-- a Ref with this table
pub record Represents (s : NodeStore) (t : Truth) (r : Ref) : Type 0 where
  pub ref : IsRef s r.0
  pub table : truth_of s r.0 ≡ t

-- the Ref at a place of a list; after the last one, the leaf false
abbrev pub ref_at : List Ref → ℕ → Ref
ref_at refs place = slice_index_or refs place (record { 0 = 0 })

-- the table of the Ref at each place
abbrev pub tables_at : NodeStore → List Ref → ℕ → Truth
tables_at s refs place = truth_of s (ref_at refs place).0

-- what four Refs' tables make
abbrev pub of_refs : {X : Type 0} → NodeStore → (Truth → Truth → Truth → Truth → X) → Ref → Ref → Ref → Ref → X
of_refs s f a b c e = f (truth_of s a.0) (truth_of s b.0) (truth_of s c.0) (truth_of s e.0)

-- the Ref at each place has the table of that place
abbrev pub RepresentAll : NodeStore → (ℕ → Truth) → List Ref → Type 0
RepresentAll s t refs = (place : ℕ) → place < length refs → Represents s (t place) (ref_at refs place)

-- there are `count` Refs, and they mean the first tables
abbrev pub RepresentFirst : NodeStore → (ℕ → Truth) → ℕ → List Ref → Type 0
RepresentFirst s t count refs = (length refs ≡ count) × RepresentAll s t refs

-- the Ref at each place means the function of that place
abbrev pub RepresentFunctions : NodeStore → (ℕ → Function) → List Ref → Type 0
RepresentFunctions s f refs = RepresentAll s (λ j. table s.vars (f j)) refs

-- each of them is of the store
abbrev pub AreRefs : NodeStore → List Ref → Type 0
AreRefs s refs = (place : ℕ) → place < length refs → IsRef s (ref_at refs place).0

-- a condition for each way in which points are read
abbrev pub ForEachReading : ℕ → ℕ → List ℕ → Netlist → (Reading → Type 0) → Type 0
ForEachReading n first starts net P = (r : Reading) → IsReadSo n first starts net r → P r

-- the tables of the cells of a netlist
abbrev pub bits_tables : ℕ → Reading → Netlist → List Truth
bits_tables n r net = tables n (map (cell_bit r net) (cell_numbers net))

-- functions number by number, where those of two differ
abbrev pub differ_each : (ℕ → Function) → (ℕ → Function) → ℕ → Function
differ_each f g j = differ (f j) (g j)

-- the tables of the first functions, and those of the disjunctions of the first ones
abbrev pub first_tables : ℕ → (ℕ → Function) → ℕ → List Truth
first_tables n f count = tables n (map f (range_with_len 0 count))

abbrev pub folded_tables : ℕ → (ℕ → Function) → ℕ → List Truth
folded_tables n f count = tables n (map (first_of f) (range_with_len 0 count))

-- both
abbrev pub some_tables : ℕ → (ℕ → Function) → ℕ → List Truth
some_tables n f count = first_tables n f count ++ folded_tables n f count

-- the table of a cell over n variables, by those of the places that it reads; input i is the variable at the first one
-- and i, output pin p of box b the variable at its box's first one and p
abbrev pub cell_table : ℕ → ℕ → List ℕ → (ℕ → Truth) → Cell → Truth
cell_table n first starts at (Const b) = constant n b
cell_table n first starts at (Input i) = variable n (first + i)
cell_table n first starts at (Not a) = complement_of_table (at a)
cell_table n first starts at (And a b) = joined_tables ◌&&◌ (at a) (at b)
cell_table n first starts at (Or a b) = joined_tables ◌||◌ (at a) (at b)
cell_table n first starts at (Xor a b) = joined_tables xor (at a) (at b)
cell_table n first starts at (Mux c t e) = chosen (at c) (at t) (at e)
cell_table n first starts at (BoxOut b p) = variable n (slice_index_or starts b 0 + p)

-- a table of n variables is 1 at no point
abbrev pub IsNowhereTrue : ℕ → Truth → Type 0
IsNowhereTrue n t = (point : List Bool) → length point ≡ n → truth_at t point ≡ true → ⊥

-- a Ref for each cell of both nets
pub record AreCells (s : NodeStore) (spec imp : Netlist) (of_spec of_imp : List Ref) : Type 0 where
  pub spec_whole : length of_spec ≡ length spec.cells
  pub imp_whole : length of_imp ≡ length imp.cells
  pub spec_refs : AreRefs s of_spec
  pub imp_refs : AreRefs s of_imp

-- each has the table of its cell, where points are read so
pub record HaveCells (s : NodeStore) (r : Reading) (spec imp : Netlist) (of_spec of_imp : List Ref) : Type 0 where
  pub spec_whole : length of_spec ≡ length spec.cells
  pub imp_whole : length of_imp ≡ length imp.cells
  pub spec_cells : RepresentAll s (λ place. table s.vars (cell_bit (without_pins r) spec place)) of_spec
  pub imp_cells : RepresentAll s (λ place. table s.vars (cell_bit r imp place)) of_imp
