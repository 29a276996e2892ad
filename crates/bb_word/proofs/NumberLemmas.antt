-- The number that bits spell from the least significant one upwards.
use Rattle.std.proofs.Common.{◌≡◌, ◌∙◌, ◌+◌, ◌*◌, ◌%◌, ◌^◌, ◌<◌, ℕ, Bool, true, false, not, List, [], ◌∷◌, ◌++◌, map, length, reverse, refl, ap, arith}
use Rattle.std.specs.Prelude.{if◌then◌else◌}
use Rattle.std.proofs.Math.Nat.{pow-suc}
use Rattle.std.proofs.lemmas.Nat.{mod-mul-add}
use Rattle.std.proofs.lemmas.List.{reverse-append}
use Rattle.bb_bits.specs.Numbers.{number_of}
use Rattle.bb_word.specs.Meanings.{truth}

abbrev pub number_up : List Bool → ℕ
number_up [] = 0
number_up (b ∷ bits) = truth b + 2 * number_up bits

-- a law of bb_bits
abbrev pub Doubles : Type 0
Doubles = (bits : List Bool) (b : Bool) → number_of (bits ++ b ∷ []) ≡ 2 * number_of bits + (if b then 1 else 0)

module _ (doubles : Doubles) where
  pub number_of-reverse : (bits : List Bool) → number_of (reverse bits) ≡ number_up bits
  number_of-reverse [] = refl
  number_of-reverse (b ∷ bits) = ap number_of (reverse-append (b ∷ []) bits) ∙ doubles (reverse bits) b ∙ omega (arith, number_of-reverse bits)

pub number_up-below : (bits : List Bool) → number_up bits < 2 ^ length bits
number_up-below [] = omega arith
number_up-below (true ∷ bits) = omega (arith, number_up-below bits, pow-suc 2 (length bits))
number_up-below (false ∷ bits) = omega (arith, number_up-below bits, pow-suc 2 (length bits))

-- a number below n with a multiple of n is the remainder
pub mod_is : (k n r t : ℕ) → r < n → t ≡ k * n + r → t % n ≡ r
mod_is k n r t less is = ap (λ x. x % n) is ∙ mod-mul-add k n r less

pub number_up-not : (bits : List Bool) → number_up (map not bits) + number_up bits + 1 ≡ 2 ^ length bits
number_up-not [] = omega arith
number_up-not (true ∷ bits) = omega (arith, number_up-not bits, pow-suc 2 (length bits))
number_up-not (false ∷ bits) = omega (arith, number_up-not bits, pow-suc 2 (length bits))
