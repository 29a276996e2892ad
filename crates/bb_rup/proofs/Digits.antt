-- A number is read digit by digit: what is read and the digits that are left write the whole number, and ten digits
-- stay below 2 to the power of 64.
use Rattle.std.proofs.Common.{◌≡◌, ℕ, ◌+◌, ◌-◌, ◌*◌, ◌^◌, ◌≤◌, true, false, Some, None, List, ◌∷◌, length, sym, ap, ◌∙◌, arith, pow-suc, mul-le-mul_left, mul-le-mul_right}
use Rattle.std.specs.List.{list_all}
use Rattle.std.specs.Char.{digit_value, is_ascii_digit}
use Rattle.std.specs.Str.Parse.{digits_value}
use Rattle.std.proofs.Math.Nat.{one-le-pow, pow-le-pow_right}
use Rattle.std.proofs.lemmas.Bool.{cond-true, cond-false}
use Rattle.std.proofs.lemmas.Bool.Decides.{nat_tests}
use Rattle.bb_rup.specs.Numerals.{is_numeral, numeral_value}

-- a digit's value
pub digit_is : (b : ℕ) → is_ascii_digit b ≡ true → (digit_value b ≡ b - 48) × (48 ≤ b) × (b ≤ 57)
digit_is b h = (grind (arith, nat_tests), grind (arith, nat_tests), grind (arith, nat_tests))

-- the value that is read, and as many nines as digits are left, are below the bound
abbrev pub Fits : ℕ → List ℕ → List ℕ → Type 0
Fits value rest digits = (value + 1) * 10 ^ length rest ≤ 10 ^ length digits

one_digit : (value d p n : ℕ) → d ≤ 9 → (value + 1) * (p * 10) ≤ n → (value * 10 + d + 1) * p ≤ n
one_digit value d p n small h =
    let step : value * 10 + d + 1 ≤ (value + 1) * 10 = omega (arith, small) in
    omega (arith, h, mul-le-mul_right p step)

pub fits-digit : (value b : ℕ) (rest digits : List ℕ) → is_ascii_digit b ≡ true → Fits value (b ∷ rest) digits → Fits (value * 10 + (b - 48)) rest digits
fits-digit value b rest digits is h =
    let d = digit_is b is in
    let small : b - 48 ≤ 9 = omega (arith, d.2) in
    one_digit value (b - 48) (10 ^ length rest) (10 ^ length digits) small (omega (arith, h, ap (λ p. (value + 1) * p) (pow-suc 10 (length rest))))

below : (value p n : ℕ) → 1 ≤ p → n ≤ 10 ^ 10 → (value + 1) * (p * 10) ≤ n → value * 10 + 10 ≤ 10 ^ 10
below value p n some few h = omega (arith, few, h, mul-le-mul_left ((value + 1) * 10) some)

pub fits-small : (value b : ℕ) (rest digits : List ℕ) → length digits ≤ 10 → Fits value (b ∷ rest) digits → value * 10 + 10 ≤ 10000000000
fits-small value b rest digits few h =
    below value (10 ^ length rest) (10 ^ length digits) (one-le-pow (length rest) 10 (omega arith)) (pow-le-pow_right {n = 10} (omega arith) {i = length digits} {j = 10} few)
    (omega (arith, h, ap (λ p. (value + 1) * p) (pow-suc 10 (length rest))))

-- the number that is read
pub number-read : (digits : List ℕ) (value : ℕ) → list_all is_ascii_digit digits ≡ true → 1 ≤ length digits → length digits ≤ 10 → value ≡ digits_value 10 digits → Some value ≡ numeral_value digits
number-read digits value all some few is =
    let numeral : is_numeral digits ≡ true = grind (arith, nat_tests) in
    ap Some is ∙ sym (cond-true (is_numeral digits) (Some (digits_value 10 digits)) None numeral)

pub number-none : (digits : List ℕ) → is_numeral digits ≡ false → None ≡ numeral_value digits
number-none digits fails = sym (cond-false (is_numeral digits) (Some (digits_value 10 digits)) None fails)

pub ruleset digits = (digit_is, fits-digit, fits-small, number-read, number-none)
