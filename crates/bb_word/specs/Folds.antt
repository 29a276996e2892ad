-- The circuits of reductions, and what they mean.
use Rattle.std.specs.Prelude.{ℕ, zero, suc, ◌+◌, ◌-◌, Bool, false, not, List}
use Rattle.std.specs.List.{list_any, list_all, count_by}
use Rattle.bb_ast.specs.declared.operators.FoldOp.{FoldOp}
use Rattle.bb_ast.specs.declared.operators.FoldOp.TheVariants as ops
use Rattle.bb_word.specs.Gates.{Gates, Made}
use Rattle.bb_word.specs.Circuits.{folded, inverted}

abbrev pub fold_circuit : {A : Type 0} → Gates A → FoldOp → List A → Made A
fold_circuit g ops.None xs = inverted g (folded g.either g.zero xs)
fold_circuit g ops.All xs = folded g.both g.one xs
fold_circuit g ops.NotAll xs = inverted g (folded g.both g.one xs)
fold_circuit g ops.Any xs = folded g.either g.zero xs
fold_circuit g ops.NotAny xs = inverted g (folded g.either g.zero xs)
fold_circuit g ops.Odd xs = folded g.differ g.zero xs
fold_circuit g ops.NotOdd xs = inverted g (folded g.differ g.zero xs)

-- how many cells they make of w bits
abbrev pub fold_cells : FoldOp → ℕ → ℕ
fold_cells ops.None w = (w - 1) + 1
fold_cells ops.All w = w - 1
fold_cells ops.NotAll w = (w - 1) + 1
fold_cells ops.Any w = w - 1
fold_cells ops.NotAny w = (w - 1) + 1
fold_cells ops.Odd w = w - 1
fold_cells ops.NotOdd w = (w - 1) + 1

-- a number is odd
abbrev pub is_odd : ℕ → Bool
is_odd zero = false
is_odd (suc n) = not (is_odd n)

-- all bits are 1, some bit is, an odd number of them is, or not (IEEE 1364-2005, 5.1.11, and 5.1.9 for no bit)
abbrev pub fold_bit : FoldOp → List Bool → Bool
fold_bit ops.None xs = not (list_any (λ x. x) xs)
fold_bit ops.All xs = list_all (λ x. x) xs
fold_bit ops.NotAll xs = not (list_all (λ x. x) xs)
fold_bit ops.Any xs = list_any (λ x. x) xs
fold_bit ops.NotAny xs = not (list_any (λ x. x) xs)
fold_bit ops.Odd xs = is_odd (count_by (λ x. x) xs)
fold_bit ops.NotOdd xs = not (is_odd (count_by (λ x. x) xs))
