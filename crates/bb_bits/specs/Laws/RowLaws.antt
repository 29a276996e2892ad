-- What a reader expects of tables: their rows are contents of a box, and contents are the rows of one table.
use Rattle.std.specs.Prelude.{◌≡◌, ℕ, ◌<◌, Bool, List, length}
use Rattle.bb_bits.specs.Numbers.{number_of}
use Rattle.bb_bits.specs.Tables.{TableBits, HasAllBits, row_of, table_bit, rows_of}
use Rattle.bb_bits.specs.Contents.{HasShape, row_at, output_bit}

-- the rows of a table fit a box with its numbers of pins
abbrev pub RowsHaveShape : Type 0
RowsHaveShape = (t : TableBits) → HasAllBits t → HasShape t.inputs t.outputs (rows_of t)

-- among its rows, input bits choose the one with their number
abbrev pub RowsAreChosen : Type 0
RowsAreChosen = (t : TableBits) (ins : List Bool) → length ins ≡ t.inputs → row_at (rows_of t) ins ≡ row_of t (number_of ins)

-- and an output pin gives its bit of it
abbrev pub BitsAreChosen : Type 0
BitsAreChosen = (t : TableBits) (ins : List Bool) (pin : ℕ) → length ins ≡ t.inputs → pin < t.outputs → output_bit (rows_of t) ins pin ≡ table_bit t (number_of ins) pin

-- rows that fit a box are the rows of a table with its numbers of pins
abbrev pub RowsHaveTable : Type 0
RowsHaveTable = (inputs outputs : ℕ) (rows : List (List Bool)) → HasShape inputs outputs rows
    → (t : TableBits) × (t.inputs ≡ inputs) × (t.outputs ≡ outputs) × HasAllBits t × (rows_of t ≡ rows)

-- and of no other
abbrev pub RowsFixTable : Type 0
RowsFixTable = (t u : TableBits) → HasAllBits t → HasAllBits u → t.inputs ≡ u.inputs → t.outputs ≡ u.outputs → rows_of t ≡ rows_of u → t ≡ u
