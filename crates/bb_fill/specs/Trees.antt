-- What implements an output pin of a box that holds a table: a binary tree whose leaves are the pin's bits in all rows,
-- that of row 0 at the left. The level next to the leaves chooses by the last input pin of the box, the root by the
-- first: a node has the value of its right side where the input pin is 1, and that of its left side where it is 0. So
-- the root has the pin's bit in the row whose number the bits at the input pins spell, the first pin most significant.
-- Each node is a conditional (IEEE 1364-2005, 5.1.13) with a net of its own.
use Rattle.std.specs.Prelude.{ℕ, ◌+◌, ◌/◌, Bool, List, [], ◌∷◌, ◌++◌, length, map}
use Rattle.std.specs.List.{range_with_len}
use Rattle.bb_bits.specs.Tables.{TableBits, column}
use Rattle.bb_fill.specs.Words.{NetWord, ChoiceNet}
use Rattle.bb_fill.specs.Lines.{Line, Assign}

-- choices by a pin between each two neighbouring values, which are numbered on from a number
abbrev pub halved : NetWord → ℕ → List NetWord → List Line
halved pin number (low ∷ high ∷ values) = Assign (ChoiceNet number) pin high low ∷ halved pin (number + 1) values
halved pin number (value ∷ []) = []
halved pin number [] = []

-- the nets of so many choices, numbered on from a number
abbrev pub choice_nets : ℕ → ℕ → List NetWord
choice_nets number count = map (λ i. ChoiceNet (number + i)) (range_with_len 0 count)

-- the choices of a tree over some values, the pins in order from the last to the first
abbrev pub tree_lines : List NetWord → ℕ → List NetWord → List Line
tree_lines [] number values = []
tree_lines (pin ∷ pins) number values =
    halved pin number values ++ tree_lines pins (number + length values / 2) (choice_nets number (length values / 2))

-- the values that are left: with 2^k values and k pins it is one
abbrev pub tree_values : List NetWord → ℕ → List NetWord → List NetWord
tree_values [] number values = values
tree_values (pin ∷ pins) number values = tree_values pins (number + length values / 2) (choice_nets number (length values / 2))
