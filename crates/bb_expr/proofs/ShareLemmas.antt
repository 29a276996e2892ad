-- The cells of a chain, a conditional and of parts are those of their operands, arms and parts together; and a sum that stops at a
-- greatest number at each step is the whole sum up to that number.
use Rattle.std.proofs.Common.{◌≡◌, ℕ, zero, suc, ◌+◌, ◌*◌, ◌-◌, ◌≤◌, not, ◌<◌, List, [], ◌∷◌, ◌++◌, map, length, take, get_or, refl, sym, ap, ◌∙◌, arith}
use Rattle.std.specs.Prelude.{sum_by, min, ◌%◌, ◌==◌}
use Rattle.std.proofs.lemmas.List.Sums.{sum_by-cons, sum_by_push}
use Rattle.std.proofs.lemmas.List.{map_more, take_all}
use Rattle.std.proofs.lemmas.Bool.Decides.{nat_tests}
use Rattle.bb_ast.specs.declared.expr.Op.{Op}
use Rattle.bb_ast.specs.declared.expr.Op.TheVariants as ops
use Rattle.bb_ast.specs.Syntax.{Expression, Chain, Cond, Concat, Repeat, operands, arms, listed_parts}
use Rattle.bb_ast.specs.Folds.{of_operands, of_arms, of_parts}
use Rattle.bb_names.specs.Widths.{Ranges, Operand, alone}
use Rattle.bb_expr.specs.Cells.{op_cells, counts, cell_count}
use Rattle.bb_word.specs.Folds.{is_odd}
use Rattle.bb_expr.specs.Inside.Shares.{own_cells, operand_cells, arm_cells}
use Rattle.bb_expr.proofs.CellCounts.{count_seen}

operands-counted : (ranges : Ranges) (w : ℕ) (xs : List (Op × Expression))
    → sum_by (λ x. x.1.at w + op_cells x.0 * w) (of_operands (count_seen ranges) counts (operands xs)) ≡ sum_by (operand_cells ranges w) xs
operands-counted ranges w [] = refl
operands-counted ranges w (x ∷ xs) = sum_by-cons (λ (y : Op × Operand ℕ). y.1.at w + op_cells y.0 * w) (x.0, count_seen ranges x.1 (cell_count ranges x.1)) (of_operands (count_seen ranges) counts (operands xs)) ∙ ap (λ n. operand_cells ranges w x + n) (operands-counted ranges w xs) ∙ sym (sum_by-cons (operand_cells ranges w) x xs)

arms-counted : (ranges : Ranges) (w : ℕ) (xs : List (Expression × Expression))
    → sum_by (λ x. alone x.0 + (x.0.width - 1) + x.1.at w + w) (of_arms (count_seen ranges) counts (arms xs)) ≡ sum_by (arm_cells ranges w) xs
arms-counted ranges w [] = refl
arms-counted ranges w (x ∷ xs) = sum_by-cons (λ (y : Operand ℕ × Operand ℕ). alone y.0 + (y.0.width - 1) + y.1.at w + w) (count_seen ranges x.0 (cell_count ranges x.0), count_seen ranges x.1 (cell_count ranges x.1)) (of_arms (count_seen ranges) counts (arms xs)) ∙ ap (λ n. arm_cells ranges w x + n) (arms-counted ranges w xs) ∙ sym (sum_by-cons (arm_cells ranges w) x xs)

parts-counted : (ranges : Ranges) (xs : List Expression) → sum_by alone (of_parts (count_seen ranges) counts (listed_parts xs)) ≡ sum_by (own_cells ranges) xs
parts-counted ranges [] = refl
parts-counted ranges (x ∷ xs) = sum_by-cons (alone {A = ℕ}) (count_seen ranges x (cell_count ranges x)) (of_parts (count_seen ranges) counts (listed_parts xs)) ∙ ap (λ n. own_cells ranges x + n) (parts-counted ranges xs) ∙ sym (sum_by-cons (own_cells ranges) x xs)

pub chain-cells : (ranges : Ranges) (e : Expression) (xs : List (Op × Expression)) (w : ℕ) → cell_count ranges (Chain e (operands xs)) w ≡ cell_count ranges e w + sum_by (operand_cells ranges w) xs
chain-cells ranges e xs w = ap (λ n. cell_count ranges e w + n) (operands-counted ranges w xs)

pub cond-cells : (ranges : Ranges) (xs : List (Expression × Expression)) (last : Expression) (w : ℕ) → cell_count ranges (Cond (arms xs) last) w ≡ sum_by (arm_cells ranges w) xs + cell_count ranges last w
cond-cells ranges xs last w = ap (λ n. n + cell_count ranges last w) (arms-counted ranges w xs)

pub concat-cells : (ranges : Ranges) (xs : List Expression) (w : ℕ) → cell_count ranges (Concat (listed_parts xs)) w ≡ sum_by (own_cells ranges) xs
concat-cells ranges xs w = parts-counted ranges xs

pub repeat-cells : (ranges : Ranges) (k : ℕ) (xs : List Expression) (w : ℕ) → cell_count ranges (Repeat k (listed_parts xs)) w ≡ sum_by (own_cells ranges) xs
repeat-cells ranges k xs w = parts-counted ranges xs

-- sums that stop at a greatest number m
pub two-shares : (m a b first second result : ℕ) → first ≡ min m a → second ≡ min m b → result ≡ min (first + second) m → result ≡ min m (a + b)
two-shares m a b first second result x y is = omega (arith, x, y, is)

pub operand-share : (m a b inner result : ℕ) → inner ≡ min m a → b ≤ m → result ≡ min (inner + b) m → result ≡ min m (a + b)
operand-share m a b inner result x small is = omega (arith, x, small, is)

pub arm-share : (m a v own w first second inner result : ℕ) → first ≡ min m a → second ≡ min m v → inner ≡ min (first + second) m → (own - 1) + w ≤ m → result ≡ min (inner + ((own - 1) + w)) m
    → result ≡ min m (a + (own - 1) + v + w)
arm-share m a v own w first second inner result x y both small is =
    operand-share m (a + v) ((own - 1) + w) inner result (two-shares m a v first second inner x y both) small is ∙ ap (min m) (same a v (own - 1) w)
  where
    same : (a v k w : ℕ) → (a + v) + (k + w) ≡ a + k + v + w
    same a v k w = omega arith

pub sum-more : {X Y : Type 0} (g : Y → ℕ) (f : X → Y) (xs : List X) (i : ℕ) (x : X) → i < length xs → x ≡ get_or xs i x → sum_by g (map f (take (i + 1) xs)) ≡ sum_by g (map f (take i xs)) + g (f x)
sum-more g f xs i x within at =
    ap (sum_by g) (map_more f xs i x within ∙ ap (λ y. map f (take i xs) ++ f y ∷ []) (sym at)) ∙ sum_by_push g (map f (take i xs)) (f x)

-- one element is no more than all
pub one-share : {X Y : Type 0} (g : Y → ℕ) (f : X → Y) (xs : List X) (i : ℕ) (x : X) → i < length xs → x ≡ get_or xs i x → g (f x) ≤ sum_by g (map f xs)
one-share g f [] i x within at = absurd (omega (arith, within))
one-share g f (y ∷ xs) zero x within at = omega (arith, sum_by-cons g (f y) (map f xs), ap (λ z. g (f z)) at)
one-share g f (y ∷ xs) (suc i) x within at = omega (arith, sum_by-cons g (f y) (map f xs), one-share g f xs i x (omega (arith, within)) at)

-- one element more
pub share-more : {X Y : Type 0} (g : Y → ℕ) (f : X → Y) (xs : List X) (i : ℕ) (x : X) (m before here now : ℕ) → i < length xs → x ≡ get_or xs i x
    → before ≡ min m (sum_by g (map f (take i xs))) → here ≡ min m (g (f x)) → now ≡ min (before + here) m → now ≡ min m (sum_by g (map f (take (i + 1) xs)))
share-more g f xs i x m before here now within at so_far more is =
    two-shares m (sum_by g (map f (take i xs))) (g (f x)) before here now so_far more is ∙ ap (min m) (sym (sum-more g f xs i x within at))

-- and all of them
pub share-all : {X Y : Type 0} (g : Y → ℕ) (f : X → Y) (xs : List X) (i m total : ℕ) → length xs ≤ i → total ≡ min m (sum_by g (map f (take i xs))) → total ≡ min m (sum_by g (map f xs))
share-all g f xs i m total past is = is ∙ ap (λ ys. min m (sum_by g (map f ys))) (take_all i xs past)

pub op-small : (op : Op) (w : ℕ) → op_cells op * w ≤ 2 * w
op-small ops.And w = omega arith
op-small ops.Or w = omega arith
op-small ops.Xor w = omega arith
op-small ops.Xnor w = omega arith

pub odd-remainder : (k : ℕ) → is_odd k ≡ (k % 2 == 1)
odd-remainder zero = refl
odd-remainder (suc k) = ap not (odd-remainder k) ∙ grind (arith, nat_tests)
