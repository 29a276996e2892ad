-- Carry and sum spell the sum of the numbers.
use Rattle.std.proofs.Common.{◌≡◌, ◌∙◌, ◌+◌, ◌*◌, ◌-◌, ◌%◌, ◌^◌, ◌<◌, ℕ, suc, Bool, true, false, not, ◌&&◌, ◌||◌, List, [], ◌∷◌, map, length, refl, sym, ap, subst, arith}
use Rattle.std.specs.Prelude.{if◌then◌else◌}
use Rattle.std.proofs.Math.Nat.{pow-suc}
use Rattle.std.proofs.lemmas.List.{length-map}
use Rattle.bb_bits.specs.Bits.{xor}
use Rattle.bb_word.specs.Gates.{bits}
use Rattle.bb_word.specs.Circuits.{sum, difference}
use Rattle.bb_word.specs.Meanings.{truth}
use Rattle.bb_word.proofs.NumberLemmas.{number_up, number_up-below, number_up-not, mod_is}

-- the carry that leaves the most significant bit
abbrev pub carry : Bool → List Bool → List Bool → Bool
carry c [] ys = c
carry c (x ∷ xs) [] = c
carry c (x ∷ xs) (y ∷ ys) = carry ((x && y) || (xor x y && c)) xs ys

-- a carry weighs two to the number of bits below it
abbrev pub weight : Bool → ℕ → ℕ
weight c n = if c then 2 ^ n else 0

weight-suc : (c : Bool) (n : ℕ) → weight c (suc n) ≡ 2 * weight c n
weight-suc true n = omega (arith, pow-suc 2 n)
weight-suc false n = refl

pub length-sum : (c : Bool) (xs ys : List Bool) → length xs ≡ length ys → length (sum bits c xs ys).bits ≡ length xs
length-sum c [] ys same = refl
length-sum c (x ∷ xs) [] same = absurd (omega (arith, same))
length-sum c (x ∷ xs) (y ∷ ys) same = ap suc (length-sum _ xs ys (omega (arith, same)))

pub sum_number : (c : Bool) (xs ys : List Bool) → length xs ≡ length ys → number_up (sum bits c xs ys).bits + weight (carry c xs ys) (length xs) ≡ number_up xs + number_up ys + truth c
sum_number true [] [] same = omega arith
sum_number false [] [] same = omega arith
sum_number c [] (y ∷ ys) same = absurd (omega (arith, same))
sum_number c (x ∷ xs) [] same = absurd (omega (arith, same))
sum_number true (true ∷ xs) (true ∷ ys) same = omega (arith, sum_number true xs ys (omega (arith, same)), weight-suc (carry true xs ys) (length xs))
sum_number true (true ∷ xs) (false ∷ ys) same = omega (arith, sum_number true xs ys (omega (arith, same)), weight-suc (carry true xs ys) (length xs))
sum_number true (false ∷ xs) (true ∷ ys) same = omega (arith, sum_number true xs ys (omega (arith, same)), weight-suc (carry true xs ys) (length xs))
sum_number true (false ∷ xs) (false ∷ ys) same = omega (arith, sum_number false xs ys (omega (arith, same)), weight-suc (carry false xs ys) (length xs))
sum_number false (true ∷ xs) (true ∷ ys) same = omega (arith, sum_number true xs ys (omega (arith, same)), weight-suc (carry true xs ys) (length xs))
sum_number false (true ∷ xs) (false ∷ ys) same = omega (arith, sum_number false xs ys (omega (arith, same)), weight-suc (carry false xs ys) (length xs))
sum_number false (false ∷ xs) (true ∷ ys) same = omega (arith, sum_number false xs ys (omega (arith, same)), weight-suc (carry false xs ys) (length xs))
sum_number false (false ∷ xs) (false ∷ ys) same = omega (arith, sum_number false xs ys (omega (arith, same)), weight-suc (carry false xs ys) (length xs))

remainder : (n r t : ℕ) (c : Bool) → r < 2 ^ n → r + weight c n ≡ t → t % 2 ^ n ≡ r
remainder n r t true less is = mod_is 1 (2 ^ n) r t less (omega (arith, is))
remainder n r t false less is = mod_is 0 (2 ^ n) r t less (omega (arith, is))

-- the bits spell the sum modulo two to the width
pub sum_mod : (c : Bool) (xs ys : List Bool) → length xs ≡ length ys → number_up (sum bits c xs ys).bits ≡ (number_up xs + number_up ys + truth c) % 2 ^ length xs
sum_mod c xs ys same =
    let small = subst (λ n. number_up (sum bits c xs ys).bits < 2 ^ n) (length-sum c xs ys same) (number_up-below (sum bits c xs ys).bits) in
    sym (remainder (length xs) (number_up (sum bits c xs ys).bits) (number_up xs + number_up ys + truth c) (carry c xs ys) small (sum_number c xs ys same))

-- with the complements and a carry of 1 it is the difference
pub difference_mod : (xs ys : List Bool) → length xs ≡ length ys → number_up (difference bits xs ys).bits ≡ (number_up xs + 2 ^ length xs - number_up ys) % 2 ^ length xs
difference_mod xs ys same =
    let long : length xs ≡ length (map not ys) = same ∙ sym (length-map ys not) in
    let p = ap (λ n. 2 ^ n) same in
    let e : number_up xs + number_up (map not ys) + 1 ≡ number_up xs + 2 ^ length xs - number_up ys = omega (arith, number_up-not ys, p) in
    sum_mod true xs (map not ys) long ∙ ap (λ n. n % 2 ^ length xs) e

pub length-difference : (xs ys : List Bool) → length xs ≡ length ys → length (difference bits xs ys).bits ≡ length xs
length-difference xs ys same = length-sum true xs (map not ys) (same ∙ sym (length-map ys not))
