-- A table of bits: what a combinational block with some input and output pins gives for each list of input bits. A row
-- is the list of output bits, first pin first. Input bits choose the row whose number they spell in binary, the first
-- pin as the most significant bit. The rows are one after another, row 0 first.
use Rattle.std.specs.Prelude.{◌≡◌, ℕ, ◌+◌, ◌*◌, ◌≤◌, ◌^◌, Bool, false, List, length, map, take, drop, replicate}
use Rattle.std.specs.List.{range_with_len, slice_index_or}

-- a table: its numbers of pins, and its rows one after another
pub record TableBits : Type 0 where
  pub inputs : ℕ
  pub outputs : ℕ
  pub rows : List Bool

-- it has a bit for each of its output pins and each list of its input bits, and no other
abbrev pub HasAllBits : TableBits → Type 0
HasAllBits t = length t.rows ≡ t.outputs * 2 ^ t.inputs

-- what every Table keeps: it has all its bits, and these are at most 2^24
pub record IsTable (t : TableBits) : Type 0 where
  pub whole : HasAllBits t
  pub small : t.outputs * 2 ^ t.inputs ≤ 2 ^ 24

-- the row with a number
abbrev pub row_of : TableBits → ℕ → List Bool
row_of t row = take t.outputs (drop (row * t.outputs) t.rows)

-- the bit of a row at an output pin
abbrev pub table_bit : TableBits → ℕ → ℕ → Bool
table_bit t row pin = slice_index_or t.rows (row * t.outputs + pin) false

-- the table whose bits are all 0
abbrev pub zero_table : ℕ → ℕ → TableBits
zero_table inputs outputs = record { inputs = inputs; outputs = outputs; rows = replicate (outputs * 2 ^ inputs) false }

-- all rows, in the order of their numbers
abbrev pub rows_of : TableBits → List (List Bool)
rows_of t = map (row_of t) (range_with_len 0 (2 ^ t.inputs))

-- the bits of an output pin in all rows, row 0 first
abbrev pub column : TableBits → ℕ → List Bool
column t pin = map (λ row. table_bit t row pin) (range_with_len 0 (2 ^ t.inputs))
