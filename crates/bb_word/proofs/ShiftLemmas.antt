-- A shift by stages is a product with a power of two modulo two to the width, or the quotient by it.
use Rattle.std.proofs.Common.{◌≡◌, ◌∙◌, ◌+◌, ◌*◌, ◌%◌, ◌/◌, ◌^◌, ◌<◌, ◌≤◌, ℕ, zero, suc, Bool, true, false, List, [], ◌∷◌, ◌++◌, length, take, drop, replicate, refl, sym, ap, inl, inr, arith}
use Rattle.std.specs.Prelude.{min}
use Rattle.std.proofs.Math.Nat.{pow-suc, div-one, mul_assoc, mul_comm, div-eq_of_lt, mod-eq_of_lt, div-div-eq-div-mul}
use Rattle.std.proofs.Math.Pow.{pow_mono}
use Rattle.std.proofs.lemmas.Bool.{cases_lt}
use Rattle.std.proofs.lemmas.Nat.{div-mul-add, mul-mod_first, pow-add}
use Rattle.std.proofs.lemmas.List.{length-append, length-replicate, length-take, take-append-drop, drop_all}
use Rattle.bb_word.specs.Gates.{bits}
use Rattle.bb_word.specs.Circuits.{choices, up, down, shifted}
use Rattle.bb_word.specs.Laws.CountLaws.{length-up, length-down}
use Rattle.bb_word.proofs.NumberLemmas.{number_up, number_up-below, mod_is}

pub number_up-append : (xs ys : List Bool) → number_up (xs ++ ys) ≡ number_up xs + 2 ^ length xs * number_up ys
number_up-append [] ys = omega arith
number_up-append (x ∷ xs) ys =
    let p : 2 ^ suc (length xs) * number_up ys ≡ 2 * (2 ^ length xs * number_up ys) = ap (λ n. n * number_up ys) (pow-suc 2 (length xs)) ∙ (let z : 2 ^ length xs * 2 * number_up ys ≡ 2 * (2 ^ length xs * number_up ys) = omega arith in z) in
    omega (arith, number_up-append xs ys, p)

pub number_up-zeros : (n : ℕ) → number_up (replicate n false) ≡ 0
number_up-zeros zero = refl
number_up-zeros (suc n) = omega (arith, number_up-zeros n)

-- the last bits of a number, counted from the least significant one, are its remainder
pub number_up-take : (n : ℕ) (xs : List Bool) → n ≤ length xs → number_up (take n xs) ≡ number_up xs % 2 ^ n
number_up-take n xs fits =
    let long : length (take n xs) ≡ n = omega (arith, length-take n xs) in
    let p : 2 ^ length (take n xs) ≡ 2 ^ n = ap (λ k. 2 ^ k) long in
    let less : number_up (take n xs) < 2 ^ n = omega (arith, number_up-below (take n xs), p) in
    let whole = ap number_up (sym (take-append-drop n xs)) ∙ number_up-append (take n xs) (drop n xs) in
    let is : number_up xs ≡ number_up (drop n xs) * 2 ^ n + number_up (take n xs) = whole ∙ ap (λ k. number_up (take n xs) + k * number_up (drop n xs)) p ∙ omega (arith, mul_comm (2 ^ n) (number_up (drop n xs))) in
    sym (mod_is (number_up (drop n xs)) (2 ^ n) (number_up (take n xs)) (number_up xs) less is)

-- without its last bits a number is the quotient
pub number_up-drop : (n : ℕ) (xs : List Bool) → number_up (drop n xs) ≡ number_up xs / 2 ^ n
number_up-drop n xs = elim (cases_lt n (length xs)) [
  | inl within ↦
      let long : length (take n xs) ≡ n = omega (arith, length-take n xs) in
      let p : 2 ^ length (take n xs) ≡ 2 ^ n = ap (λ k. 2 ^ k) long in
      let less : number_up (take n xs) < 2 ^ n = omega (arith, number_up-below (take n xs), p) in
      let whole = ap number_up (sym (take-append-drop n xs)) ∙ number_up-append (take n xs) (drop n xs) in
      let is : number_up xs ≡ number_up (drop n xs) * 2 ^ n + number_up (take n xs) = whole ∙ ap (λ k. number_up (take n xs) + k * number_up (drop n xs)) p ∙ omega (arith, mul_comm (2 ^ n) (number_up (drop n xs))) in
      sym (ap (λ t. t / 2 ^ n) is ∙ div-mul-add (number_up (drop n xs)) (2 ^ n) (number_up (take n xs)) less)
  | inr past ↦
      let none = ap number_up (drop_all n xs past) in
      let less : number_up xs < 2 ^ n = omega (arith, number_up-below xs, pow_mono past) in
      none ∙ sym (div-eq_of_lt less)
]

up_number : (n : ℕ) (xs : List Bool) → number_up (up false n xs) ≡ (number_up xs * 2 ^ n) % 2 ^ length xs
up_number n xs =
    let long : length xs ≤ length (replicate n false ++ xs) = omega (arith, length-append (replicate n false) xs) in
    let p = ap (λ k. 2 ^ k * number_up xs) (length-replicate n false) in
    let is : number_up (replicate n false ++ xs) ≡ number_up xs * 2 ^ n = omega (arith, number_up-append (replicate n false) xs, number_up-zeros n, p, mul_comm (2 ^ n) (number_up xs)) in
    number_up-take (length xs) (replicate n false ++ xs) long ∙ ap (λ k. k % 2 ^ length xs) is

down_number : (n : ℕ) (xs : List Bool) → number_up (down false n xs) ≡ number_up xs / 2 ^ n
down_number n xs =
    let zeros = replicate (min n (length xs)) false in
    let p : 2 ^ length (drop n xs) * number_up zeros ≡ 0 = ap (λ k. 2 ^ length (drop n xs) * k) (number_up-zeros (min n (length xs))) ∙ omega arith in
    omega (arith, number_up-append (drop n xs) zeros, p, number_up-drop n xs)

choices-true : (ts es : List Bool) → length ts ≡ length es → choices bits true ts es ≡ ts
choices-true [] es same = refl
choices-true (t ∷ ts) [] same = absurd (omega (arith, same))
choices-true (t ∷ ts) (e ∷ es) same = ap (λ l. t ∷ l) (choices-true ts es (omega (arith, same)))

choices-false : (ts es : List Bool) → length ts ≡ length es → choices bits false ts es ≡ es
choices-false [] [] same = refl
choices-false [] (e ∷ es) same = absurd (omega (arith, same))
choices-false (t ∷ ts) [] same = absurd (omega (arith, same))
choices-false (t ∷ ts) (e ∷ es) same = ap (λ l. e ∷ l) (choices-false ts es (omega (arith, same)))

pub shifted_up : (n : ℕ) (amount xs : List Bool) → (number_up (shifted bits (up false) n amount xs).bits ≡ (number_up xs * 2 ^ (n * number_up amount)) % 2 ^ length xs) × (length (shifted bits (up false) n amount xs).bits ≡ length xs)
shifted_up n [] xs =
    let e : 2 ^ (n * 0) ≡ 1 = ap (λ k. 2 ^ k) (let z : n * 0 ≡ 0 = omega arith in z) in
    (sym (ap (λ k. (number_up xs * k) % 2 ^ length xs) e ∙ ap (λ k. k % 2 ^ length xs) (let z : number_up xs * 1 ≡ number_up xs = omega arith in z) ∙ mod-eq_of_lt (number_up-below xs)), refl)
shifted_up n (true ∷ amount) xs =
    let stage = choices-true (up false n xs) xs (length-up false n xs) in
    let long : length (choices bits true (up false n xs) xs) ≡ length xs = ap length stage ∙ length-up false n xs in
    let rest = shifted_up (n + n) amount (choices bits true (up false n xs) xs) in
    let number = ap number_up stage ∙ up_number n xs in
    let at = rest.0 ∙ ap (λ k. (number_up (choices bits true (up false n xs) xs) * 2 ^ ((n + n) * number_up amount)) % 2 ^ k) long ∙ ap (λ k. (k * 2 ^ ((n + n) * number_up amount)) % 2 ^ length xs) number in
    let once = mul-mod_first (number_up xs * 2 ^ n) (2 ^ ((n + n) * number_up amount)) (2 ^ length xs) in
    let both : number_up xs * 2 ^ n * 2 ^ ((n + n) * number_up amount) ≡ number_up xs * 2 ^ (n * (1 + 2 * number_up amount)) =
    mul_assoc (number_up xs) (2 ^ n) (2 ^ ((n + n) * number_up amount)) ∙ ap (λ k. number_up xs * k) (sym (pow-add 2 n ((n + n) * number_up amount)) ∙ ap (λ k. 2 ^ k) (exponent n (number_up amount))) in
    (at ∙ once ∙ ap (λ k. k % 2 ^ length xs) both, rest.1 ∙ long)
  where
    exponent : (n a : ℕ) → n + (n + n) * a ≡ n * (1 + 2 * a)
    exponent n a = omega arith
shifted_up n (false ∷ amount) xs =
    let stage = choices-false (up false n xs) xs (length-up false n xs) in
    let rest = shifted_up (n + n) amount (choices bits false (up false n xs) xs) in
    let at = rest.0 ∙ ap (λ l. (number_up l * 2 ^ ((n + n) * number_up amount)) % 2 ^ length l) stage in
    (at ∙ ap (λ k. (number_up xs * 2 ^ k) % 2 ^ length xs) (exponent n (number_up amount)), rest.1 ∙ ap length stage)
  where
    exponent : (n a : ℕ) → (n + n) * a ≡ n * (0 + 2 * a)
    exponent n a = omega arith

pub shifted_down : (n : ℕ) (amount xs : List Bool) → (number_up (shifted bits (down false) n amount xs).bits ≡ number_up xs / 2 ^ (n * number_up amount)) × (length (shifted bits (down false) n amount xs).bits ≡ length xs)
shifted_down n [] xs =
    let e : 2 ^ (n * 0) ≡ 1 = ap (λ k. 2 ^ k) (let z : n * 0 ≡ 0 = omega arith in z) in
    (sym (ap (λ k. number_up xs / k) e ∙ div-one (number_up xs)), refl)
shifted_down n (true ∷ amount) xs =
    let stage = choices-true (down false n xs) xs (length-down false n xs) in
    let long : length (choices bits true (down false n xs) xs) ≡ length xs = ap length stage ∙ length-down false n xs in
    let rest = shifted_down (n + n) amount (choices bits true (down false n xs) xs) in
    let number = ap number_up stage ∙ down_number n xs in
    let at = rest.0 ∙ ap (λ k. k / 2 ^ ((n + n) * number_up amount)) number in
    let both = div-div-eq-div-mul (number_up xs) (2 ^ n) (2 ^ ((n + n) * number_up amount)) ∙ ap (λ k. number_up xs / k) (sym (pow-add 2 n ((n + n) * number_up amount)) ∙ ap (λ k. 2 ^ k) (exponent n (number_up amount))) in
    (at ∙ both, rest.1 ∙ long)
  where
    exponent : (n a : ℕ) → n + (n + n) * a ≡ n * (1 + 2 * a)
    exponent n a = omega arith
shifted_down n (false ∷ amount) xs =
    let stage = choices-false (down false n xs) xs (length-down false n xs) in
    let rest = shifted_down (n + n) amount (choices bits false (down false n xs) xs) in
    let at = rest.0 ∙ ap (λ l. number_up l / 2 ^ ((n + n) * number_up amount)) stage in
    (at ∙ ap (λ k. number_up xs / 2 ^ k) (exponent n (number_up amount)), rest.1 ∙ ap length stage)
  where
    exponent : (n a : ℕ) → (n + n) * a ≡ n * (0 + 2 * a)
    exponent n a = omega arith
