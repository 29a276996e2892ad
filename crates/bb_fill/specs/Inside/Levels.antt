-- The levels of a tree: the values that are left after the choices of some pins are bits of rows, or nets that are numbered on from a number.
use Rattle.std.specs.Prelude.{ℕ, ◌+◌, ◌*◌, ◌^◌, ◌≤◌, List, map}
use Rattle.std.specs.List.{range_with_len}
use Rattle.bb_bits.specs.Tables.{TableBits, table_bit}
use Rattle.bb_fill.specs.declared.trees.Values.{Values}
use Rattle.bb_fill.specs.declared.trees.Values.TheVariants.{Rows, Nets}
use Rattle.bb_fill.specs.Words.{NetWord, Bit, ChoiceNet}
use Rattle.bb_fill.specs.Lines.{Line, Assign}

-- a value of a level
abbrev pub value_word : TableBits → ℕ → Values → ℕ → NetWord
value_word t p Rows i = Bit (table_bit t i p)
value_word t p (Nets first) i = ChoiceNet (first + i)

-- so many values of a level
abbrev pub level_words : TableBits → ℕ → Values → ℕ → List NetWord
level_words t p values count = map (value_word t p values) (range_with_len 0 count)

-- there are so many rows, or numbers for so many nets
abbrev pub HasValues : TableBits → Values → ℕ → Type 0
HasValues t Rows count = count ≤ 2 ^ t.inputs
HasValues t (Nets first) count = first + count ≤ 2 ^ 32

-- a choice between two neighbouring values of a level
abbrev pub level_choice : TableBits → ℕ → Values → NetWord → ℕ → ℕ → Line
level_choice t p values pin first i = Assign (ChoiceNet (first + i)) pin (value_word t p values (2 * i + 1)) (value_word t p values (2 * i))
