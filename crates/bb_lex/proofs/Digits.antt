-- The number that digits spell, read digit by digit from the left.
use Rattle.std.proofs.Common.{◌≡◌, ℕ, ◌+◌, ◌-◌, ◌*◌, ◌%◌, ◌^◌, ◌<◌, ◌≤◌, true, false, List, [], ◌∷◌, length, get_or, take, drop, sym, ap, ◌∙◌, arith, ⊎_elim, map, pow-suc}
use Rattle.std.specs.Prelude.{filter}
use Rattle.std.proofs.lemmas.Bool.Decides.{nat_tests}
use Rattle.std.proofs.Math.Nat.{mul-le-mul_left, one-le-pow, add-mod, pow-zero, mod-eq_of_lt}
use Rattle.std.proofs.lemmas.Nat.{mul-mod_first}
use Rattle.std.proofs.lemmas.List.{take_all}
use Rattle.std.specs.Char.{digit_value, is_digit, is_ascii_digit}
use Rattle.bb_lex.specs.Inside.Numbers.{joined, joined_low}
use Rattle.bb_lex.specs.Numbers.{spelled, digits_of, number}
use Rattle.bb_lex.proofs.Choices.{cases_of, cond_true, cond_false}

-- the number that a value and then bytes write
abbrev pub number_after : ℕ → ℕ → List ℕ → ℕ
number_after radix value bytes = value * radix ^ length (digits_of radix bytes) + number radix bytes

digits_of-digit : (radix b : ℕ) (bytes : List ℕ) → is_digit b radix ≡ true → digits_of radix (b ∷ bytes) ≡ digit_value b ∷ digits_of radix bytes
digits_of-digit radix b bytes is = ap (map digit_value) (cond_true (is_digit b radix) (b ∷ filter (λ c. is_digit c radix) bytes) (filter (λ c. is_digit c radix) bytes) is)

digits_of-other : (radix b : ℕ) (bytes : List ℕ) → is_digit b radix ≡ false → digits_of radix (b ∷ bytes) ≡ digits_of radix bytes
digits_of-other radix b bytes is = ap (map digit_value) (cond_false (is_digit b radix) (b ∷ filter (λ c. is_digit c radix) bytes) (filter (λ c. is_digit c radix) bytes) is)

shift : (radix value d p s : ℕ) → value * (p * radix) + (d * p + s) ≡ (value * radix + d) * p + s
shift radix value d p s = omega arith

spelled_digit : (radix value d : ℕ) (ds : List ℕ) → value * radix ^ length (d ∷ ds) + spelled radix (d ∷ ds) ≡ (value * radix + d) * radix ^ length ds + spelled radix ds
spelled_digit radix value d ds = rw (pow-suc radix (length ds)) (shift radix value d (radix ^ length ds) (spelled radix ds))

-- a digit joins the value
pub number_after-digit : (radix value b : ℕ) (bytes : List ℕ) → is_digit b radix ≡ true → number_after radix value (b ∷ bytes) ≡ number_after radix (value * radix + digit_value b) bytes
number_after-digit radix value b bytes is =
    ap (λ ds. value * radix ^ length ds + spelled radix ds) (digits_of-digit radix b bytes is) ∙ spelled_digit radix value (digit_value b) (digits_of radix bytes)

-- another byte changes nothing
pub number_after-other : (radix value b : ℕ) (bytes : List ℕ) → is_digit b radix ≡ false → number_after radix value (b ∷ bytes) ≡ number_after radix value bytes
number_after-other radix value b bytes is = ap (λ ds. value * radix ^ length ds + spelled radix ds) (digits_of-other radix b bytes is)

pub digit_value-decimal : (b : ℕ) → is_ascii_digit b ≡ true → (is_digit b 10 ≡ true) × (digit_value b ≡ b - 48)
digit_value-decimal b is = (grind (arith, nat_tests), grind (arith, nat_tests))

is_digit-other : (b : ℕ) → is_ascii_digit b ≡ false → is_digit b 10 ≡ false
is_digit-other b is = grind (arith, nat_tests)

pub number_after-joined : (value b : ℕ) (bytes : List ℕ) → number_after 10 value (b ∷ bytes) ≡ number_after 10 (joined value b) bytes
number_after-joined value b bytes =
    ⊎_elim
    (λ yes.
    let d = digit_value-decimal b yes in
    number_after-digit 10 value b bytes d.0 ∙ ap (λ v. number_after 10 v bytes) (ap (λ n. value * 10 + n) d.1 ∙ sym (cond_true (is_ascii_digit b) (value * 10 + (b - 48)) value yes)))
    (λ no. number_after-other 10 value b bytes (is_digit-other b no) ∙ ap (λ v. number_after 10 v bytes) (sym (cond_false (is_ascii_digit b) (value * 10 + (b - 48)) value no)))
    (cases_of (is_ascii_digit b))

-- what comes after a value does not lower it
pub number_after-lower : (value : ℕ) (bytes : List ℕ) → value ≤ number_after 10 value bytes
number_after-lower value bytes = omega (arith, mul-le-mul_left value (one-le-pow (length (digits_of 10 bytes)) 10 (omega arith)))

pub number_after-short : (value : ℕ) (t : List ℕ) → length t < 1 → number_after 10 value t ≡ value
number_after-short value [] short = omega arith
number_after-short value (b ∷ t) short = absurd (omega arith)

-- the first byte joins the value
pub number_after-first : (value : ℕ) (t : List ℕ) → 1 ≤ length t → number_after 10 value t ≡ number_after 10 (joined value (get_or t 0 0)) (take (length t - 1) (drop 1 t))
number_after-first value [] some = absurd (omega arith)
number_after-first value (b ∷ t) some =
    number_after-joined value b t ∙ ap (λ l. number_after 10 (joined value b) l) (sym (take_all (length (b ∷ t) - 1) t (omega arith)))

pub ruleset decimal_steps = (number_after-first, number_after-lower, number_after-short)

-- the same under a modulus
mod_shift : (v p n m : ℕ) → (v % m * p + n) % m ≡ (v * p + n) % m
mod_shift v p n m = add-mod (v % m * p) n m ∙ ap (λ x. (x + n % m) % m) (mul-mod_first v p m) ∙ sym (add-mod (v * p) n m)

mod_joined : (v r d p n m : ℕ) → ((v * r % m + d) % m * p + n) % m ≡ ((v * r + d) * p + n) % m
mod_joined v r d p n m =
    let one : (v * r % m + d) * p + n ≡ v * r % m * p + (d * p + n) = omega arith in
    let two : v * r * p + (d * p + n) ≡ (v * r + d) * p + n = omega arith in
    mod_shift (v * r % m + d) p n m ∙ ap (λ x. x % m) one ∙ mod_shift (v * r) p (d * p + n) m ∙ ap (λ x. x % m) two

mod_is_self : (a m : ℕ) → a < m → a % m ≡ a
mod_is_self a m small = mod-eq_of_lt small

-- a byte joins the value, of which the low bits are kept
number_after-low : (radix value b : ℕ) (bytes : List ℕ) → number_after radix (joined_low radix value b) bytes % 2 ^ 128 ≡ number_after radix value (b ∷ bytes) % 2 ^ 128
number_after-low radix value b bytes =
    ⊎_elim
    (λ yes.
    ap (λ v. number_after radix v bytes % 2 ^ 128) (cond_true (is_digit b radix) ((value * radix % 2 ^ 128 + digit_value b) % 2 ^ 128) value yes)
    ∙ mod_joined value radix (digit_value b) (radix ^ length (digits_of radix bytes)) (number radix bytes) (2 ^ 128)
    ∙ ap (λ x. x % 2 ^ 128) (sym (number_after-digit radix value b bytes yes)))
    (λ no.
    ap (λ v. number_after radix v bytes % 2 ^ 128) (cond_false (is_digit b radix) ((value * radix % 2 ^ 128 + digit_value b) % 2 ^ 128) value no)
    ∙ ap (λ x. x % 2 ^ 128) (sym (number_after-other radix value b bytes no)))
    (cases_of (is_digit b radix))

pub number_after-low_first : (radix value : ℕ) (t : List ℕ) → 1 ≤ length t → number_after radix (joined_low radix value (get_or t 0 0)) (take (length t - 1) (drop 1 t)) % 2 ^ 128 ≡ number_after radix value t % 2 ^ 128
number_after-low_first radix value [] some = absurd (omega arith)
number_after-low_first radix value (b ∷ t) some =
    ap (λ l. number_after radix (joined_low radix value b) l % 2 ^ 128) (take_all (length (b ∷ t) - 1) t (omega arith)) ∙ number_after-low radix value b t

pub number_after-low_short : (radix value : ℕ) (t : List ℕ) → value < 2 ^ 128 → length t < 1 → number_after radix value t % 2 ^ 128 ≡ value
number_after-low_short radix value [] small short =
    let e : number_after radix value [] ≡ value = rw (pow-zero radix) (omega arith) in
    ap (λ x. x % 2 ^ 128) e ∙ mod_is_self value (2 ^ 128) small
number_after-low_short radix value (b ∷ t) small short = absurd (omega arith)
