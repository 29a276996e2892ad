-- Contents of boxes: for the path text of each box, a list of bytes, a list of rows. A box with k input pins and m
-- output pins has 2^k rows of m bits, first output pin first. Input bits choose the row whose number they spell in
-- binary, the first input pin as the most significant bit.
use Rattle.std.specs.Prelude.{◌≡◌, ℕ, ◌^◌, Bool, false, List, [], length, All}
use Rattle.std.specs.List.{slice_index_or}
use Rattle.bb_bits.specs.Numbers.{number_of}

-- from path texts to rows
abbrev pub Contents : Type 0
Contents = List ℕ → List (List Bool)

-- there is a row for each list of bits at the input pins, and it has a bit for each output pin
pub record HasShape (inputs outputs : ℕ) (rows : List (List Bool)) : Type 0 where
  pub count : length rows ≡ 2 ^ inputs
  pub widths : All (λ row. length row ≡ outputs) rows

-- the row of some input bits
abbrev pub row_at : List (List Bool) → List Bool → List Bool
row_at rows ins = slice_index_or rows (number_of ins) []

-- what the rows give at an output pin for some input bits
abbrev pub output_bit : List (List Bool) → List Bool → ℕ → Bool
output_bit rows ins pin = slice_index_or (row_at rows ins) pin false
