-- The greatest bit that differs orders two words as their numbers, and words are equal where their numbers are.
use Rattle.std.proofs.Common.{◌≡◌, ◌∙◌, ◌+◌, ◌*◌, ◌≤◌, ℕ, suc, Bool, true, false, List, [], ◌∷◌, length, reverse, refl, ap, arith}
use Rattle.std.specs.Prelude.{nat_eq, nat_lt}
use Rattle.std.specs.List.{list_all}
use Rattle.std.proofs.lemmas.Bool.Decides.{nat_tests}
use Rattle.bb_word.proofs.FoldLemmas.{all_every, list_all-reverse}
use Rattle.bb_word.specs.Gates.{bits}
use Rattle.bb_word.specs.Circuits.{less, equal_bits, equal}
use Rattle.bb_word.specs.Meanings.{truth}
use Rattle.bb_word.proofs.NumberLemmas.{number_up}

-- one more bit below, where the right number is greater by one or not
step_same : (m n l : ℕ) (b : Bool) → l ≤ 1 → nat_lt m (n + l) ≡ nat_lt (truth b + 2 * m) (truth b + 2 * n + l)
step_same m n l true h = grind (arith, nat_tests)
step_same m n l false h = grind (arith, nat_tests)

step_high : (m n l : ℕ) → l ≤ 1 → nat_lt m (n + 0) ≡ nat_lt (1 + 2 * m) (0 + 2 * n + l)
step_high m n l h = grind (arith, nat_tests)

step_low : (m n l : ℕ) → l ≤ 1 → nat_lt m (n + 1) ≡ nat_lt (0 + 2 * m) (1 + 2 * n + l)
step_low m n l h = grind (arith, nat_tests)

truth-small : (b : Bool) → truth b ≤ 1
truth-small true = omega arith
truth-small false = omega arith

pub less_number : (l : Bool) (xs ys : List Bool) → length xs ≡ length ys → (less bits l xs ys).bits ≡ nat_lt (number_up xs) (number_up ys + truth l) ∷ []
less_number true [] [] same = refl
less_number false [] [] same = refl
less_number l [] (y ∷ ys) same = absurd (omega (arith, same))
less_number l (x ∷ xs) [] same = absurd (omega (arith, same))
less_number l (true ∷ xs) (true ∷ ys) same = less_number l xs ys (omega (arith, same)) ∙ ap (λ b. b ∷ []) (step_same (number_up xs) (number_up ys) (truth l) true (truth-small l))
less_number l (false ∷ xs) (false ∷ ys) same = less_number l xs ys (omega (arith, same)) ∙ ap (λ b. b ∷ []) (step_same (number_up xs) (number_up ys) (truth l) false (truth-small l))
less_number l (true ∷ xs) (false ∷ ys) same = less_number false xs ys (omega (arith, same)) ∙ ap (λ b. b ∷ []) (step_high (number_up xs) (number_up ys) (truth l) (truth-small l))
less_number l (false ∷ xs) (true ∷ ys) same = less_number true xs ys (omega (arith, same)) ∙ ap (λ b. b ∷ []) (step_low (number_up xs) (number_up ys) (truth l) (truth-small l))

pub length-equal_bits : (xs ys : List Bool) → length xs ≡ length ys → length (equal_bits bits xs ys).bits ≡ length xs
length-equal_bits [] ys same = refl
length-equal_bits (x ∷ xs) [] same = absurd (omega (arith, same))
length-equal_bits (x ∷ xs) (y ∷ ys) same = ap suc (length-equal_bits xs ys (omega (arith, same)))

equal_low : (m n : ℕ) (b : Bool) → nat_eq m n ≡ nat_eq (truth b + 2 * m) (truth b + 2 * n)
equal_low m n true = grind (arith, nat_tests)
equal_low m n false = grind (arith, nat_tests)

equal_apart : (m n : ℕ) → false ≡ nat_eq (1 + 2 * m) (0 + 2 * n)
equal_apart m n = grind (arith, nat_tests)

equal_apart' : (m n : ℕ) → false ≡ nat_eq (0 + 2 * m) (1 + 2 * n)
equal_apart' m n = grind (arith, nat_tests)

-- all bits are alike where the numbers are equal
pub equality_number : (xs ys : List Bool) → length xs ≡ length ys → list_all (λ x. x) (equal_bits bits xs ys).bits ≡ nat_eq (number_up xs) (number_up ys)
equality_number [] [] same = refl
equality_number [] (y ∷ ys) same = absurd (omega (arith, same))
equality_number (x ∷ xs) [] same = absurd (omega (arith, same))
equality_number (true ∷ xs) (true ∷ ys) same = equality_number xs ys (omega (arith, same)) ∙ equal_low (number_up xs) (number_up ys) true
equality_number (false ∷ xs) (false ∷ ys) same = equality_number xs ys (omega (arith, same)) ∙ equal_low (number_up xs) (number_up ys) false
equality_number (true ∷ xs) (false ∷ ys) same = equal_apart (number_up xs) (number_up ys)
equality_number (false ∷ xs) (true ∷ ys) same = equal_apart' (number_up xs) (number_up ys)

-- whether the words are equal is whether their numbers are
pub equal_number : (xs ys : List Bool) → length xs ≡ length ys → (equal bits xs ys).bits ≡ nat_eq (number_up xs) (number_up ys) ∷ []
equal_number xs ys same =
    let zs = (equal_bits bits xs ys).bits in
    all_every (reverse zs) ∙ ap (λ b. b ∷ []) (list_all-reverse zs ∙ equality_number xs ys same)
