-- What holds of an expression's operands, arms and parts one by one, where these are as plain lists.
use Rattle.std.proofs.Common.{◌≡◌, ℕ, zero, suc, ◌*◌, ◌≤◌, List, [], ◌∷◌, ◌++◌, map, refl, ap, arith}
use Rattle.std.specs.Prelude.{All, sum, max}
use Rattle.std.specs.List.{AllByRecursion, flat_map}
use Rattle.std.proofs.lemmas.List.Elements.{All-from_recursion, recursion_from_All}
use Rattle.bb_ast.specs.declared.expr.Op.{Op}
use Rattle.bb_ast.specs.declared.operators.WordOp.{WordOp}
use Rattle.bb_ast.specs.declared.operators.FoldOp.{FoldOp}
use Rattle.bb_ast.specs.Syntax.{Expression, Not, Fold, Chain, Words, Cond, Concat, Repeat, operands, word_operands, arms, listed_parts}
use Rattle.bb_ast.specs.Folds.{of_operands, of_words, of_arms, of_parts}
use Rattle.bb_names.specs.Widths.{Ranges, greatest, widths, own_width}
use Rattle.bb_names.specs.Faults.{widest}
use Rattle.bb_names.specs.Inside.Checked.{ModuleFacts}
use Rattle.bb_expr.specs.Inside.Occurrences.{gathering, expressions_in}
use Rattle.bb_expr.specs.Inside.Fit.{IsFit, AreFit, ranges_in}
use Rattle.bb_expr.proofs.ListLemmas.{all-prefix, all-back}

module _ (m : ModuleFacts) where
  each-in : (e : Expression) → AreFit m e → AllByRecursion (IsFit m) (expressions_in e)
  each-in e fit = recursion_from_All (IsFit m) (expressions_in e) fit.each

  fit-of : (e : Expression) → AllByRecursion (IsFit m) (expressions_in e) → AreFit m e
  fit-of e each = record { each = All-from_recursion (IsFit m) (expressions_in e) each }

  pub fit-here : (e : Expression) → AreFit m e → IsFit m e
  fit-here e fit = (each-in e fit).0

  pub fit-not : (k : ℕ) (e : Expression) → AreFit m (Not k e) → AreFit m e
  fit-not k e fit = fit-of e (each-in (Not k e) fit).1

  pub fit-folded : (op : FoldOp) (e : Expression) → AreFit m (Fold op e) → AreFit m e
  fit-folded op e fit = fit-of e (each-in (Fold op e) fit).1

  words-each : (xs : List (WordOp × Expression)) → AllByRecursion (IsFit m) (flat_map (λ x. x.1) (of_words (λ x all. x ∷ all) gathering (word_operands xs))) → AllByRecursion (λ x. AreFit m x.1) xs
  words-each [] h = tt
  words-each (x ∷ xs) h = (fit-of x.1 (all-prefix (IsFit m) (expressions_in x.1) _ h), words-each xs (all-back (IsFit m) (expressions_in x.1) _ h))

  pub fit-left : (e : Expression) (xs : List (WordOp × Expression)) → AreFit m (Words e (word_operands xs)) → AreFit m e
  fit-left e xs fit = fit-of e (all-prefix (IsFit m) (expressions_in e) _ (each-in (Words e (word_operands xs)) fit).1)

  pub fit-words : (e : Expression) (xs : List (WordOp × Expression)) → AreFit m (Words e (word_operands xs)) → All (λ x. AreFit m x.1) xs
  fit-words e xs fit = All-from_recursion (λ x. AreFit m x.1) xs (words-each xs (all-back (IsFit m) (expressions_in e) _ (each-in (Words e (word_operands xs)) fit).1))

  operands-each : (xs : List (Op × Expression)) → AllByRecursion (IsFit m) (flat_map (λ x. x.1) (of_operands (λ x all. x ∷ all) gathering (operands xs))) → AllByRecursion (λ x. AreFit m x.1) xs
  operands-each [] h = tt
  operands-each (x ∷ xs) h = (fit-of x.1 (all-prefix (IsFit m) (expressions_in x.1) _ h), operands-each xs (all-back (IsFit m) (expressions_in x.1) _ h))

  pub fit-first : (e : Expression) (xs : List (Op × Expression)) → AreFit m (Chain e (operands xs)) → AreFit m e
  fit-first e xs fit = fit-of e (all-prefix (IsFit m) (expressions_in e) _ (each-in (Chain e (operands xs)) fit).1)

  pub fit-operands : (e : Expression) (xs : List (Op × Expression)) → AreFit m (Chain e (operands xs)) → All (λ x. AreFit m x.1) xs
  fit-operands e xs fit = All-from_recursion (λ x. AreFit m x.1) xs (operands-each xs (all-back (IsFit m) (expressions_in e) _ (each-in (Chain e (operands xs)) fit).1))

  arms-each : (xs : List (Expression × Expression)) → AllByRecursion (IsFit m) (flat_map (λ x. x.0 ++ x.1) (of_arms (λ x all. x ∷ all) gathering (arms xs))) → AllByRecursion (λ x. AreFit m x.0 × AreFit m x.1) xs
  arms-each [] h = tt
  arms-each (x ∷ xs) h =
      let first = all-prefix (IsFit m) (expressions_in x.0 ++ expressions_in x.1) _ h in (
        (fit-of x.0 (all-prefix (IsFit m) (expressions_in x.0) (expressions_in x.1) first), fit-of x.1 (all-back (IsFit m) (expressions_in x.0) (expressions_in x.1) first)),
        arms-each xs (all-back (IsFit m) (expressions_in x.0 ++ expressions_in x.1) _ h),
      )

  pub fit-arms : (xs : List (Expression × Expression)) (last : Expression) → AreFit m (Cond (arms xs) last) → All (λ x. AreFit m x.0 × AreFit m x.1) xs
  fit-arms xs last fit = All-from_recursion (λ x. AreFit m x.0 × AreFit m x.1) xs (arms-each xs (all-prefix (IsFit m) _ (expressions_in last) (each-in (Cond (arms xs) last) fit).1))

  pub fit-last : (xs : List (Expression × Expression)) (last : Expression) → AreFit m (Cond (arms xs) last) → AreFit m last
  fit-last xs last fit = fit-of last (all-back (IsFit m) (flat_map (λ x. x.0 ++ x.1) (of_arms (λ x all. x ∷ all) gathering (arms xs))) (expressions_in last) (each-in (Cond (arms xs) last) fit).1)

  parts-each : (xs : List Expression) → AllByRecursion (IsFit m) (flat_map (λ e. e) (of_parts (λ x all. x ∷ all) gathering (listed_parts xs))) → AllByRecursion (AreFit m) xs
  parts-each [] h = tt
  parts-each (x ∷ xs) h = (fit-of x (all-prefix (IsFit m) (expressions_in x) _ h), parts-each xs (all-back (IsFit m) (expressions_in x) _ h))

  pub fit-parts : (xs : List Expression) → AreFit m (Concat (listed_parts xs)) → All (AreFit m) xs
  fit-parts xs fit = All-from_recursion (AreFit m) xs (parts-each xs (each-in (Concat (listed_parts xs)) fit).1)

  pub fit-copied : (k : ℕ) (xs : List Expression) → AreFit m (Repeat k (listed_parts xs)) → All (AreFit m) xs
  fit-copied k xs fit = All-from_recursion (AreFit m) xs (parts-each xs (each-in (Repeat k (listed_parts xs)) fit).1)

operand-widths : (ranges : Ranges) (xs : List (Op × Expression)) → map (λ x. x.1) (of_operands (λ x a. a) (widths ranges) (operands xs)) ≡ map (λ x. own_width ranges x.1) xs
operand-widths ranges [] = refl
operand-widths ranges (x ∷ xs) = ap (λ r. own_width ranges x.1 ∷ r) (operand-widths ranges xs)

arm-widths : (ranges : Ranges) (xs : List (Expression × Expression)) → map (λ x. x.1) (of_arms (λ x a. a) (widths ranges) (arms xs)) ≡ map (λ x. own_width ranges x.1) xs
arm-widths ranges [] = refl
arm-widths ranges (x ∷ xs) = ap (λ r. own_width ranges x.1 ∷ r) (arm-widths ranges xs)

part-widths : (ranges : Ranges) (xs : List Expression) → of_parts (λ x a. a) (widths ranges) (listed_parts xs) ≡ map (own_width ranges) xs
part-widths ranges [] = refl
part-widths ranges (x ∷ xs) = ap (λ r. own_width ranges x ∷ r) (part-widths ranges xs)

pub chain-width : (ranges : Ranges) (e : Expression) (xs : List (Op × Expression)) → own_width ranges (Chain e (operands xs)) ≡ max (own_width ranges e) (greatest (map (λ x. own_width ranges x.1) xs))
chain-width ranges e xs = ap (λ l. max (own_width ranges e) (greatest l)) (operand-widths ranges xs)

pub cond-width : (ranges : Ranges) (xs : List (Expression × Expression)) (last : Expression) → own_width ranges (Cond (arms xs) last) ≡ max (greatest (map (λ x. own_width ranges x.1) xs)) (own_width ranges last)
cond-width ranges xs last = ap (λ l. max (greatest l) (own_width ranges last)) (arm-widths ranges xs)

pub concat-width : (ranges : Ranges) (xs : List Expression) → own_width ranges (Concat (listed_parts xs)) ≡ sum (map (own_width ranges) xs)
concat-width ranges xs = ap sum (part-widths ranges xs)

pub repeat-width : (ranges : Ranges) (k : ℕ) (xs : List Expression) → own_width ranges (Repeat k (listed_parts xs)) ≡ k * sum (map (own_width ranges) xs)
repeat-width ranges k xs = ap (λ l. k * sum l) (part-widths ranges xs)

product-bounds : (k n b : ℕ) → 1 ≤ k → k * n ≤ b → n ≤ b
product-bounds zero n b some most = absurd (omega (arith, some))
product-bounds (suc k) n b some most = grind (arith, most)

-- the parts of a concatenation and of a replication are no wider side by side than a net may be
pub parts-bounded : (m : ModuleFacts) (xs : List Expression) → AreFit m (Concat (listed_parts xs)) → sum (map (own_width (ranges_in m)) xs) ≤ widest
parts-bounded m xs fit = omega (arith, concat-width (ranges_in m) xs, (fit-here m (Concat (listed_parts xs)) fit).bounded)

pub copied-bounded : (m : ModuleFacts) (k : ℕ) (xs : List Expression) → AreFit m (Repeat k (listed_parts xs)) → sum (map (own_width (ranges_in m)) xs) ≤ widest
copied-bounded m k xs fit =
    let here = fit-here m (Repeat k (listed_parts xs)) fit in
    product-bounds k (sum (map (own_width (ranges_in m)) xs)) widest here.right (omega (arith, repeat-width (ranges_in m) k xs, here.bounded))

pub copies-bounded : (m : ModuleFacts) (k : ℕ) (xs : List Expression) → AreFit m (Repeat k (listed_parts xs)) → k * sum (map (own_width (ranges_in m)) xs) ≤ widest
copies-bounded m k xs fit = omega (arith, repeat-width (ranges_in m) k xs, (fit-here m (Repeat k (listed_parts xs)) fit).bounded)
