-- Values in three values as two tables (the dual-rail encoding): where a value is known to be 1, and where to be 0.
use Rattle.std.specs.Prelude.{◌≡◌, ◌<◌, ℕ, false, not, List, [], ◌∷◌, ◌++◌, length, map, slice_index_or}
use Rattle.std.specs.List.{flat_map}
use Rattle.bb_bits.specs.Truth.{Truth, constant, variable, complement_of_table}
use Rattle.bb_net.specs.declared.cell.Cell.{Cell}
use Rattle.bb_net.specs.declared.cell.Cell.TheVariants.{Const, Input, Not, And, Or, Xor, Mux, BoxOut}
use Rattle.bb_net.specs.Netlists.{Netlist}
use Rattle.bb_uniq.specs.declared.store.Ref.{Ref}
use Rattle.bb_uniq.specs.Inside.Nodes.{NodeStore, IsRef}
use Rattle.bb_uniq.specs.Inside.Meaning.{truth_of}
use Rattle.bb_sym.specs.declared.known_gates.DualRail.{DualRail}
use Rattle.bb_sym.specs.Functions.{spec_bit, high, low, both, either, sum_table, sum_tables, choice_table, choice_tables, cell_tables, known_tables}
use Rattle.bb_sym.specs.Plain.{table, tables, variables, cell_numbers}
use Rattle.bb_sym.specs.Inside.Made.{Represents, RepresentAll}

pub record Rails : Type 0 where
  pub one : Truth
  pub zero : Truth

abbrev pub rails : Truth → Truth → Rails
rails t u = record { one = t; zero = u }

-- those of two Refs
abbrev pub rails_of : NodeStore → DualRail → Rails
rails_of s r = rails (truth_of s r.one.0) (truth_of s r.zero.0)

-- both Refs are of the store
abbrev pub AreRails : NodeStore → DualRail → Type 0
AreRails s r = IsRef s r.one.0 × IsRef s r.zero.0

-- and have these tables
pub record HaveRails (s : NodeStore) (t : Rails) (r : DualRail) : Type 0 where
  pub one : Represents s t.one r.one
  pub zero : Represents s t.zero r.zero

-- the Refs at a place of a list; after the last ones count leaves
abbrev pub pair_at : List DualRail → ℕ → DualRail
pair_at made place = slice_index_or made place (record { one = record { 0 = 0 }; zero = record { 0 = 0 } })

abbrev pub rails_at : NodeStore → List DualRail → ℕ → Rails
rails_at s made place = rails_of s (pair_at made place)

-- the Refs at each place are of the store
abbrev pub AreAllRails : NodeStore → List DualRail → Type 0
AreAllRails s made = (place : ℕ) → place < length made → AreRails s (pair_at made place)

-- and have the tables of that place
abbrev pub HaveAllRails : NodeStore → (ℕ → Rails) → List DualRail → Type 0
HaveAllRails s t made = (place : ℕ) → place < length made → HaveRails s (t place) (pair_at made place)

-- the tables of a gate, by those of its operands, and those that are made for it
abbrev pub input_rails : ℕ → ℕ → Rails
input_rails n i = rails (variable n i) (complement_of_table (variable n i))

abbrev pub input_tables : ℕ → ℕ → List Truth
input_tables n i = variable n i ∷ complement_of_table (variable n i) ∷ []

abbrev pub and_rails : Rails → Rails → Rails
and_rails a b = rails (both a.one b.one) (either a.zero b.zero)

abbrev pub and_tables : Rails → Rails → List Truth
and_tables a b = both a.one b.one ∷ either a.zero b.zero ∷ []

abbrev pub or_rails : Rails → Rails → Rails
or_rails a b = rails (either a.one b.one) (both a.zero b.zero)

abbrev pub or_tables : Rails → Rails → List Truth
or_tables a b = both a.zero b.zero ∷ either a.one b.one ∷ []

abbrev pub xor_rails : Rails → Rails → Rails
xor_rails a b = rails (sum_table a.one b.zero a.zero b.one) (sum_table a.one b.one a.zero b.zero)

abbrev pub xor_tables : Rails → Rails → List Truth
xor_tables a b = sum_tables a.one b.zero a.zero b.one ++ sum_tables a.one b.one a.zero b.zero

abbrev pub mux_rails : Rails → Rails → Rails → Rails
mux_rails c t e = rails (choice_table c.one c.zero t.one e.one) (choice_table c.one c.zero t.zero e.zero)

abbrev pub mux_tables : Rails → Rails → Rails → List Truth
mux_tables c t e = choice_tables c.one c.zero t.one e.one ++ choice_tables c.one c.zero t.zero e.zero

-- the tables of a cell over n variables, by those of the places that it reads
abbrev pub cell_rails : ℕ → (ℕ → Rails) → Cell → Rails
cell_rails n at (Const b) = rails (constant n b) (constant n (not b))
cell_rails n at (Input i) = input_rails n i
cell_rails n at (BoxOut b p) = rails (constant n false) (constant n false)
cell_rails n at (Not a) = rails (at a).zero (at a).one
cell_rails n at (And a b) = and_rails (at a) (at b)
cell_rails n at (Or a b) = or_rails (at a) (at b)
cell_rails n at (Xor a b) = xor_rails (at a) (at b)
cell_rails n at (Mux c t e) = mux_rails (at c) (at t) (at e)

-- those that are made for it
abbrev pub tables_made : ℕ → (ℕ → Rails) → Cell → List Truth
tables_made n at cell = cell_tables n (λ place. (at place).one) (λ place. (at place).zero) cell

-- those of a cell of an implementation whose boxes are unknown
abbrev pub known_rails : Netlist → ℕ → Rails
known_rails imp place = rails (high imp place) (low imp place)

-- Refs for the cells of both nets over the inputs, by their places: the bits of the specification, and what is known of
-- those of the implementation
pub record HaveKnown (s : NodeStore) (spec imp : Netlist) (of_spec : List Ref) (of_imp : List DualRail) : Type 0 where
  pub spec_whole : length of_spec ≡ length spec.cells
  pub imp_whole : length of_imp ≡ length imp.cells
  pub spec_cells : RepresentAll s (λ place. table imp.inputs (spec_bit spec place)) of_spec
  pub imp_cells : HaveAllRails s (known_rails imp) of_imp

-- the variables and the cells of both nets
abbrev pub known_functions : Netlist → Netlist → List Truth
known_functions spec imp = variables imp.inputs ++ (tables imp.inputs (map (spec_bit spec) (cell_numbers spec)) ++ flat_map (known_tables imp) (cell_numbers imp))

-- where a bit is known and is not the wanted one, and that of which it is made
abbrev pub known_wrong_table : Rails → Truth → Truth
known_wrong_table known wanted = sum_table known.one (complement_of_table wanted) known.zero wanted

abbrev pub known_wrong_tables : Rails → Truth → List Truth
known_wrong_tables known wanted = complement_of_table wanted ∷ sum_tables known.one (complement_of_table wanted) known.zero wanted
