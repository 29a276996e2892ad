-- Operators on words of one level from the left, as far as a walk has come: the own width of the operands before the
-- next operator, and the width at which they are taken, which depends on the operators that follow.
use Rattle.std.specs.Prelude.{◌≡◌, ◌≤◌, ℕ, ◌+◌, ◌^◌, List, [], ◌∷◌, All}
use Rattle.bb_ast.specs.declared.operators.WordOp.{WordOp}
use Rattle.bb_ast.specs.Syntax.{Expression, word_operands}
use Rattle.bb_ast.specs.Levels.{IsOneLevel}
use Rattle.bb_names.specs.Widths.{Ranges, own_width, operator_width, first_at, second_at}
use Rattle.bb_names.specs.Inside.Checked.{ModuleFacts}
use Rattle.bb_word.specs.Words.{word_cells}
use Rattle.bb_expr.specs.Cells.{MadeTerms, made, word_made, cell_count}
use Rattle.bb_expr.specs.Inside.Fit.{AreFit, ranges_in}
use Rattle.bb_expr.specs.Inside.Growing.{most_steps}

-- the own width of a level whose left part has the own width l
abbrev pub width_on : Ranges → ℕ → List (WordOp × Expression) → ℕ
width_on ranges l [] = l
width_on ranges l (x ∷ xs) = width_on ranges (operator_width x.0 l (own_width ranges x.1)) xs

-- the width at which the left part is taken where the whole level is taken at w
abbrev pub taken : Ranges → ℕ → List (WordOp × Expression) → ℕ → ℕ
taken ranges l [] w = w
taken ranges l (x ∷ xs) w = let r = own_width ranges x.1 in first_at x.0 l r (taken ranges (operator_width x.0 l r) xs w)

-- the cells of the operators and of their right operands
abbrev pub words_cells : Ranges → ℕ → List (WordOp × Expression) → ℕ → ℕ
words_cells ranges l [] w = 0
words_cells ranges l (x ∷ xs) w =
    let r = own_width ranges x.1 in
    let t = taken ranges (operator_width x.0 l r) xs w in
    (cell_count ranges x.1 (second_at x.0 l r t) + word_cells x.0 (first_at x.0 l r t) (second_at x.0 l r t)) + words_cells ranges (operator_width x.0 l r) xs w

-- the operators and their right operands after what was made of the left part
abbrev pub words_on : Ranges → MadeTerms → ℕ → List (WordOp × Expression) → ℕ → MadeTerms
words_on ranges m l [] w = m
words_on ranges m l (x ∷ xs) w =
    let r = own_width ranges x.1 in
    let t = taken ranges (operator_width x.0 l r) xs w in
    words_on ranges (word_made x.0 (first_at x.0 l r t) (second_at x.0 l r t) m (made ranges x.1 (second_at x.0 l r t)) t) (operator_width x.0 l r) xs w

-- operators on words that can be lowered at the width w, where the left part has the own width l and gave b bits, the last of n steps
pub record AreReady (m : ModuleFacts) (xs : List (WordOp × Expression)) (w l n b : ℕ) : Type 0 where
  pub fit : All (λ x. AreFit m x.1) xs
  pub level : IsOneLevel (word_operands xs)
  pub some : 1 ≤ l
  pub bounded : l ≤ 65536
  pub reach : width_on (ranges_in m) l xs ≤ w
  pub top : w ≤ 65536
  pub bits : b ≡ taken (ranges_in m) l xs w
  pub few : words_cells (ranges_in m) l xs w ≤ 2000000
  pub room : n + most_steps w (words_cells (ranges_in m) l xs w) ≤ 2 ^ 31 + b
