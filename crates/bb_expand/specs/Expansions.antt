-- The expansion of a pair over some vectors: clauses that are true exactly where bits of tables for the boxes, and bits
-- of the implementation's cells at each vector, belong together and give the specification's outputs. The clauses of a
-- gate are those of Tseitin, On the complexity of derivation in propositional calculus (1968). Boxes of one sharing
-- class (kind) share a table and its variables. Variables count from 1: first the bits of the tables, one for each
-- class in order, of a table its rows, and of a row its output pins; then the cells at the first vector, and so on.
use Rattle.std.specs.Prelude.{ℕ, ◌+◌, ◌*◌, ◌^◌, Bool, not, List, [], ◌∷◌, ◌++◌, length, map, take, slice_index}
use Rattle.std.specs.List.{flat_map, range_with_len, slice_index_or, zip}
use Rattle.bb_bits.specs.Numbers.{bits_of}
use Rattle.bb_net.specs.declared.cell.Cell.{Cell}
use Rattle.bb_net.specs.declared.cell.Cell.TheVariants.{Const, Input, Not, And, Or, Xor, Mux, BoxOut}
use Rattle.bb_net.specs.Equivalence.{wanted_bit}
use Rattle.bb_net.specs.Completions.{table_bits}
use Rattle.bb_net.specs.Kinds.{representatives}
use Rattle.bb_net.specs.Netlists.{Netlist, Pins, cell_at, box_at}
use Rattle.bb_net.specs.Values.{bit_of}
use Rattle.bb_cnf.specs.declared.clauses.Lit.{Lit}
use Rattle.bb_cnf.specs.Clauses.{Formula, positive, negated}

-- the variable of a bit of a sharing class's table, in a row at an output pin, where `boxes` has one box for each class
abbrev pub table_variable : List Pins → ℕ → ℕ → ℕ → ℕ
table_variable boxes kind row pin = table_bits (take kind boxes) + row * length (box_at boxes kind).outs + pin + 1

-- the variable of the cell at a place, at the vector with a number
abbrev pub cell_variable : Netlist → List ℕ → ℕ → ℕ → ℕ
cell_variable imp kinds v place = table_bits (representatives kinds imp.boxes) + v * length imp.cells + place + 1

-- the literal that is true where the variable has the bit
abbrev pub having : ℕ → Bool → Lit
having x bit = record { var = x; neg = not bit }

-- pin by pin, the literal that is true where the pin does not have its bit of a row
abbrev pub differing : (ℕ → ℕ) → List ℕ → List Bool → List Lit
differing var pins row = map (λ pin. having (var pin.0) (not pin.1)) (zip pins row)

-- where the pins have the bits of a row, y and the table's bit t of this row are equal
abbrev pub row_clauses : (ℕ → ℕ) → List ℕ → ℕ → List Bool → ℕ → List (List Lit)
row_clauses var pins y row t = (differing var pins row ++ negated y ∷ positive t ∷ []) ∷ (differing var pins row ++ positive y ∷ negated t ∷ []) ∷ []

-- the variable y of a cell is the cell's bit, where var gives the variables of the places that it reads
abbrev pub cell_clauses : List ℕ → List Pins → List Bool → (ℕ → ℕ) → ℕ → Cell → List (List Lit)
cell_clauses kinds boxes x var y (Const b) = (having y b ∷ []) ∷ []
cell_clauses kinds boxes x var y (Input i) = (having y (bit_of x i) ∷ []) ∷ []
cell_clauses kinds boxes x var y (Not a) = (positive y ∷ positive (var a) ∷ []) ∷ (negated y ∷ negated (var a) ∷ []) ∷ []
cell_clauses kinds boxes x var y (And a b) = (negated y ∷ positive (var a) ∷ []) ∷ (negated y ∷ positive (var b) ∷ []) ∷ (positive y ∷ negated (var a) ∷ negated (var b) ∷ []) ∷ []
cell_clauses kinds boxes x var y (Or a b) = (positive y ∷ negated (var a) ∷ []) ∷ (positive y ∷ negated (var b) ∷ []) ∷ (negated y ∷ positive (var a) ∷ positive (var b) ∷ []) ∷ []
cell_clauses kinds boxes x var y (Xor a b) = (negated y ∷ positive (var a) ∷ positive (var b) ∷ []) ∷ (negated y ∷ negated (var a) ∷ negated (var b) ∷ [])
    ∷ (positive y ∷ negated (var a) ∷ positive (var b) ∷ []) ∷ (positive y ∷ positive (var a) ∷ negated (var b) ∷ []) ∷ []
cell_clauses kinds boxes x var y (Mux c t e) = (negated (var c) ∷ negated (var t) ∷ positive y ∷ []) ∷ (negated (var c) ∷ positive (var t) ∷ negated y ∷ [])
    ∷ (positive (var c) ∷ negated (var e) ∷ positive y ∷ []) ∷ (positive (var c) ∷ positive (var e) ∷ negated y ∷ []) ∷ []
cell_clauses kinds boxes x var y (BoxOut b p) =
    flat_map (λ row. row_clauses var (box_at boxes b).ins y (bits_of (length (box_at boxes b).ins) row) (table_variable (representatives kinds boxes) (slice_index kinds b) row p)) (range_with_len 0 (2 ^ length (box_at boxes b).ins))

-- the clauses of all cells at the vector x with the number v
abbrev pub cells_clauses : Netlist → List ℕ → ℕ → List Bool → List (List Lit)
cells_clauses imp kinds v x = flat_map (λ place. cell_clauses kinds imp.boxes x (cell_variable imp kinds v) (cell_variable imp kinds v place) (cell_at imp.cells place)) (range_with_len 0 (length imp.cells))

-- each output has the specification's bit
abbrev pub output_clauses : Netlist → Netlist → List ℕ → ℕ → List Bool → List (List Lit)
output_clauses spec imp kinds v x = map (λ j. having (cell_variable imp kinds v (slice_index imp.outs j)) (wanted_bit spec x j) ∷ []) (range_with_len 0 (length imp.outs))

-- first the cells, then the outputs
abbrev pub vector_clauses : Netlist → Netlist → List ℕ → ℕ → List Bool → List (List Lit)
vector_clauses spec imp kinds v x = cells_clauses imp kinds v x ++ output_clauses spec imp kinds v x

-- the expansion over a list of vectors
abbrev pub expansion : Netlist → Netlist → List ℕ → List (List Bool) → Formula
expansion spec imp kinds vectors = record {
  vars = table_bits (representatives kinds imp.boxes) + length vectors * length imp.cells;
  clauses = flat_map (λ v. vector_clauses spec imp kinds v (slice_index_or vectors v [])) (range_with_len 0 (length vectors));
}

-- all lists of n bits, in rising order of the numbers that they spell, the first bit most significant
abbrev pub all_vectors : ℕ → List (List Bool)
all_vectors n = map (bits_of n) (range_with_len 0 (2 ^ n))
