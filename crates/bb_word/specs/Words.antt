-- The circuits of the operators on two words. Operands and results go from the least significant bit upwards.
use Rattle.std.specs.Prelude.{◌≡◌, ℕ, ◌+◌, ◌-◌, ◌*◌, ◌≤◌, List}
use Rattle.bb_ast.specs.declared.operators.WordOp.{WordOp}
use Rattle.bb_ast.specs.declared.operators.WordOp.TheVariants as ops
use Rattle.bb_word.specs.Gates.{Gates, Made}
use Rattle.bb_word.specs.Circuits.{sum, difference, equal, inverted, less, shifted, up, down, truths}

abbrev pub word_circuit : {A : Type 0} → Gates A → WordOp → List A → List A → Made A
word_circuit g ops.Plus xs ys = sum g g.zero xs ys
word_circuit g ops.Minus xs ys = difference g xs ys
word_circuit g ops.Equal xs ys = equal g xs ys
word_circuit g ops.NotEqual xs ys = inverted g (equal g xs ys)
word_circuit g ops.Less xs ys = less g g.zero xs ys
word_circuit g ops.LessEqual xs ys = inverted g (less g g.zero ys xs)
word_circuit g ops.Greater xs ys = less g g.zero ys xs
word_circuit g ops.GreaterEqual xs ys = inverted g (less g g.zero xs ys)
word_circuit g ops.Left xs ys = shifted g (up g.zero) 1 ys xs
word_circuit g ops.Right xs ys = shifted g (down g.zero) 1 ys xs
word_circuit g ops.Both xs ys = truths g g.both xs ys
word_circuit g ops.Either xs ys = truths g g.either xs ys

-- how many cells they make, by the numbers of bits of both operands
abbrev pub word_cells : WordOp → ℕ → ℕ → ℕ
word_cells ops.Plus left right = 5 * left
word_cells ops.Minus left right = 6 * left
word_cells ops.Equal left right = 2 * left + (left - 1)
word_cells ops.NotEqual left right = 2 * left + (left - 1) + 1
word_cells ops.Less left right = 2 * left
word_cells ops.LessEqual left right = 2 * left + 1
word_cells ops.Greater left right = 2 * left
word_cells ops.GreaterEqual left right = 2 * left + 1
word_cells ops.Left left right = right * left
word_cells ops.Right left right = right * left
word_cells ops.Both left right = (left - 1) + (right - 1) + 1
word_cells ops.Either left right = (left - 1) + (right - 1) + 1

-- both operands have one width, but for shifts and the truth of words
abbrev pub HaveOneWidth : WordOp → ℕ → ℕ → Type 0
HaveOneWidth ops.Plus left right = left ≡ right
HaveOneWidth ops.Minus left right = left ≡ right
HaveOneWidth ops.Equal left right = left ≡ right
HaveOneWidth ops.NotEqual left right = left ≡ right
HaveOneWidth ops.Less left right = left ≡ right
HaveOneWidth ops.LessEqual left right = left ≡ right
HaveOneWidth ops.Greater left right = left ≡ right
HaveOneWidth ops.GreaterEqual left right = left ≡ right
HaveOneWidth ops.Left left right = Unit {0}
HaveOneWidth ops.Right left right = Unit {0}
HaveOneWidth ops.Both left right = Unit {0}
HaveOneWidth ops.Either left right = Unit {0}

-- what a netlist of an operator requires: operands have one bit or more, and one width where they need it
pub record AreWidths (op : WordOp) (left right : ℕ) : Type 0 where
  pub some_left : 1 ≤ left
  pub some_right : 1 ≤ right
  pub one : HaveOneWidth op left right
