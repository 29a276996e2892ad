-- Lemmas on the number that bits spell.
use Rattle.std.proofs.Common.{◌≡◌, ℕ, ◌+◌, ◌*◌, ◌-◌, ◌<◌, ◌≤◌, ◌^◌, zero, suc, Bool, true, false, List, [], ◌∷◌, ◌++◌, length, drop, get_or, refl, ap, ◌∙◌, arith, inl, inr}
use Rattle.std.specs.Prelude.{nat_le, if◌then◌else◌}
use Rattle.std.proofs.Math.Nat.{pow-suc}
use Rattle.std.proofs.lemmas.Bool.Decides.{nat_tests}
use Rattle.std.proofs.lemmas.Bool.{cases_lt}
use Rattle.std.proofs.lemmas.List.{length-drop, at_drop_more, length_push}
use Rattle.std.proofs.lemmas.Nat.{pow_below}
use Rattle.bb_bits.specs.Numbers.{number_of, bits_of}

pub number_of-below : (bits : List Bool) → number_of bits < 2 ^ length bits
number_of-below [] = omega arith
number_of-below (true ∷ bits) = omega (arith, number_of-below bits, pow-suc 2 (length bits))
number_of-below (false ∷ bits) = omega (arith, number_of-below bits, pow-suc 2 (length bits))

-- a bit that is 1 weighs two to the number of bits after it
pub number_of-drop : (bits : List Bool) (i : ℕ) (d : Bool) → i < length bits → number_of (drop i bits) ≡ (if get_or bits i d then 2 ^ (length bits - 1 - i) + number_of (drop (i + 1) bits) else number_of (drop (i + 1) bits))
number_of-drop bits i d h =
    let len : length (drop (i + 1) bits) ≡ length bits - 1 - i = omega (arith, length-drop (i + 1) bits) in
    at_drop_more number_of bits i d h
    ∙ ap (λ k. if get_or bits i d then 2 ^ k + number_of (drop (i + 1) bits) else number_of (drop (i + 1) bits)) len

pub number_of-drop_set : (bits : List Bool) (i : ℕ) (d : Bool) → i < length bits → get_or bits i d ≡ true → number_of (drop i bits) ≡ 2 ^ (length bits - 1 - i) + number_of (drop (i + 1) bits)
number_of-drop_set bits i d h e = rw e at (number_of-drop bits i d h)

pub number_of-drop_clear : (bits : List Bool) (i : ℕ) (d : Bool) → i < length bits → get_or bits i d ≡ false → number_of (drop i bits) ≡ number_of (drop (i + 1) bits)
number_of-drop_clear bits i d h e = rw e at (number_of-drop bits i d h)

-- no number of at most 32 bits reaches 2^32
pub number_of-small : (bits : List Bool) → length bits ≤ 32 → number_of bits < 2 ^ 32
number_of-small bits h = elim (cases_lt (length bits) 32) [
  | inl below ↦ omega (arith, number_of-below bits, pow_below (length bits) 32 below)
  | inr at ↦ let p = ap (λ k. 2 ^ k) (let e : length bits ≡ 32 = omega arith in e) in omega (arith, number_of-below bits, p)
]

nat_le-true : (a b : ℕ) → a ≤ b → nat_le a b ≡ true
nat_le-true a b h = grind (arith, nat_tests)

nat_le-false : (a b : ℕ) → b < a → nat_le a b ≡ false
nat_le-false a b h = grind (arith, nat_tests)

pub bits_of-number_of : (bits : List Bool) → bits_of (length bits) (number_of bits) ≡ bits
bits_of-number_of [] = refl
bits_of-number_of (true ∷ bits) =
    let e = nat_le-true (2 ^ length bits) (2 ^ length bits + number_of bits) (omega arith) in
    let m : 2 ^ length bits + number_of bits - 2 ^ length bits ≡ number_of bits = omega arith in
    rw (e, m, bits_of-number_of bits) refl
bits_of-number_of (false ∷ bits) =
    let e = nat_le-false (2 ^ length bits) (number_of bits) (number_of-below bits) in
    rw (e, bits_of-number_of bits) refl

pub length-bits_of : (n number : ℕ) → length (bits_of n number) ≡ n
length-bits_of zero number = refl
length-bits_of (suc n) number = ap suc (length-bits_of n _)

pub number_of-bits_of : (n number : ℕ) → number < 2 ^ n → number_of (bits_of n number) ≡ number
number_of-bits_of zero number h = omega arith
number_of-bits_of (suc n) number h = elim (cases_lt number (2 ^ n)) [
  | inl below ↦
      let e = nat_le-false (2 ^ n) number below in
      rw (e, number_of-bits_of n number below) refl
  | inr above ↦
      let e = nat_le-true (2 ^ n) number above in
      let less : number - 2 ^ n < 2 ^ n = omega (arith, pow-suc 2 n) in
      let r = number_of-bits_of n (number - 2 ^ n) less in
      let len = ap (λ k. 2 ^ k) (length-bits_of n (number - 2 ^ n)) in
      rw e (omega (arith, r, len))
]

-- one more bit after others
pub number_of-push : (bits : List Bool) (b : Bool) → number_of (bits ++ b ∷ []) ≡ 2 * number_of bits + (if b then 1 else 0)
number_of-push [] true = omega arith
number_of-push [] false = omega arith
number_of-push (true ∷ bits) b =
    let more : length (bits ++ b ∷ []) ≡ suc (length bits) = omega (arith, length_push bits b) in
    omega (arith, number_of-push bits b, ap (λ n. 2 ^ n) more, pow-suc 2 (length bits))
number_of-push (false ∷ bits) b = number_of-push bits b
