-- What folds over bits give.
use Rattle.std.proofs.Common.{◌≡◌, ◌∙◌, suc, Bool, true, false, not, ◌&&◌, ◌||◌, List, [], ◌∷◌, ◌++◌, reverse, refl, sym, ap, arith}
use Rattle.std.specs.List.{list_any, list_all, count_by}
use Rattle.std.proofs.lemmas.List.{reverse-reverse, reverse-append}
use Rattle.std.proofs.lemmas.Grind.{common_steps}
use Rattle.bb_bits.specs.Bits.{xor}
use Rattle.bb_word.specs.Gates.{bits}
use Rattle.bb_word.specs.Circuits.{accumulated, joined_all}
use Rattle.bb_word.specs.Folds.{is_odd, fold_bit, fold_circuit}
use Rattle.bb_ast.specs.declared.operators.FoldOp.{FoldOp}
use Rattle.bb_ast.specs.declared.operators.FoldOp.TheVariants as ops

pub joined_any : (b : Bool) (xs : List Bool) → (accumulated ◌||◌ b xs).bits ≡ (b || list_any (λ x. x) xs) ∷ []
joined_any true [] = refl
joined_any false [] = refl
joined_any true (x ∷ xs) = joined_any true xs
joined_any false (x ∷ xs) = joined_any x xs

pub joined_every : (b : Bool) (xs : List Bool) → (accumulated ◌&&◌ b xs).bits ≡ (b && list_all (λ x. x) xs) ∷ []
joined_every true [] = refl
joined_every false [] = refl
joined_every true (x ∷ xs) = joined_every x xs
joined_every false (x ∷ xs) = joined_every false xs

count-one : (xs : List Bool) → count_by (λ y. y) (true ∷ xs) ≡ suc (count_by (λ y. y) xs)
count-one xs = grind (arith, common_steps)

not-not : (b : Bool) → not (not b) ≡ b
not-not true = refl
not-not false = refl

odd-step : (b x : Bool) (xs : List Bool) → xor (xor b x) (is_odd (count_by (λ y. y) xs)) ≡ xor b (is_odd (count_by (λ y. y) (x ∷ xs)))
odd-step true true xs = sym (not-not (is_odd (count_by (λ y. y) xs))) ∙ ap (λ n. not (is_odd n)) (sym (count-one xs))
odd-step true false xs = refl
odd-step false true xs = ap is_odd (sym (count-one xs))
odd-step false false xs = refl

pub joined_odd : (b : Bool) (xs : List Bool) → (accumulated xor b xs).bits ≡ xor b (is_odd (count_by (λ x. x) xs)) ∷ []
joined_odd true [] = refl
joined_odd false [] = refl
joined_odd b (x ∷ xs) = joined_odd (xor b x) xs ∙ ap (λ z. z ∷ []) (odd-step b x xs)

first_odd : (x : Bool) (xs : List Bool) → xor x (is_odd (count_by (λ y. y) xs)) ≡ is_odd (count_by (λ y. y) (x ∷ xs))
first_odd true xs = ap is_odd (sym (count-one xs))
first_odd false xs = refl

pub all_any : (xs : List Bool) → (joined_all ◌||◌ false xs).bits ≡ list_any (λ x. x) xs ∷ []
all_any [] = refl
all_any (x ∷ xs) = joined_any x xs

pub all_every : (xs : List Bool) → (joined_all ◌&&◌ true xs).bits ≡ list_all (λ x. x) xs ∷ []
all_every [] = refl
all_every (x ∷ xs) = joined_every x xs

pub all_odd : (xs : List Bool) → (joined_all xor false xs).bits ≡ is_odd (count_by (λ x. x) xs) ∷ []
all_odd [] = refl
all_odd (x ∷ xs) = joined_odd x xs ∙ ap (λ z. z ∷ []) (first_odd x xs)

-- a reduction of a word, whose first bit is the most significant one
pub fold_is : (op : FoldOp) (xs : List Bool) → (fold_circuit bits op (reverse xs)).bits ≡ fold_bit op xs ∷ []
fold_is op xs = by op (reverse-reverse xs)
  where
    by : (op : FoldOp) → reverse (reverse xs) ≡ xs → (fold_circuit bits op (reverse xs)).bits ≡ fold_bit op xs ∷ []
    by ops.None e = rw (e, all_any xs) refl
    by ops.All e = rw (e, all_every xs) refl
    by ops.NotAll e = rw (e, all_every xs) refl
    by ops.Any e = rw (e, all_any xs) refl
    by ops.NotAny e = rw (e, all_any xs) refl
    by ops.Odd e = rw (e, all_odd xs) refl
    by ops.NotOdd e = rw (e, all_odd xs) refl

-- the order of the bits does not matter
and-end : (a b : Bool) → (b && (a && true)) ≡ (a && b)
and-end true true = refl
and-end true false = refl
and-end false true = refl
and-end false false = refl

list_all-append : (xs ys : List Bool) → list_all (λ x. x) (xs ++ ys) ≡ (list_all (λ x. x) xs && list_all (λ x. x) ys)
list_all-append [] ys = refl
list_all-append (true ∷ xs) ys = list_all-append xs ys
list_all-append (false ∷ xs) ys = refl

pub list_all-reverse : (xs : List Bool) → list_all (λ x. x) (reverse xs) ≡ list_all (λ x. x) xs
list_all-reverse [] = refl
list_all-reverse (x ∷ xs) = ap (list_all (λ y. y)) (reverse-append (x ∷ []) xs) ∙ list_all-append (reverse xs) (x ∷ []) ∙ ap (λ b. b && (x && true)) (list_all-reverse xs) ∙ and-end x (list_all (λ y. y) xs)
