-- Lists of so many bits, as the numbers that they spell, the first bit the most significant: one of which something holds is the
-- least of these.
use Rattle.std.proofs.Common.{◌≡◌, ◌⊎◌, ◌<◌, ◌≤◌, ◌^◌, ℕ, zero, suc, Bool, true, false, List, [], ◌∷◌, length, refl, sym, ap, subst, inl, inr, arith}
use Rattle.std.proofs.lemmas.List.{nil_from_length}
use Rattle.bb_bits.specs.Numbers.{number_of}

-- a law of bb_bits
abbrev pub Below : Type 0
Below = (bits : List Bool) → number_of bits < 2 ^ length bits

-- the least list of so many bits of which P holds, where N says that it does not
module _ (below : Below) where
  -- P holds of x, and of no lesser list of as many bits
  pub record IsLeast (P : List Bool → Type 0) (n : ℕ) (x : List Bool) : Type 0 where
    pub long : length x ≡ n
    pub holds : P x
    pub least : (y : List Bool) → length y ≡ n → P y → number_of x ≤ number_of y

  least_low : (P : List Bool → Type 0) (n : ℕ) (x : List Bool) → IsLeast (λ y. P (false ∷ y)) n x → IsLeast P (suc n) (false ∷ x)
  least_low P n x is = record { long = ap suc is.long; holds = is.holds; least = under }
    where
      under : (y : List Bool) → length y ≡ suc n → P y → number_of x ≤ number_of y
      under [] len h = absurd (omega (arith, len))
      under (false ∷ y) len h = is.least y (omega (arith, len)) h
      under (true ∷ y) len h =
          let long : length x ≡ length y = omega (arith, is.long, len) in
          let power : 2 ^ length x ≡ 2 ^ length y = ap (λ k. 2 ^ k) long in
          omega (arith, below x, power)

  least_high : (P N : List Bool → Type 0) (n : ℕ) (x : List Bool) → ((y : List Bool) → P y → N y → ⊥) → ((y : List Bool) → length y ≡ n → N (false ∷ y)) → IsLeast (λ y. P (true ∷ y)) n x → IsLeast P (suc n) (true ∷ x)
  least_high P N n x apart none is = record { long = ap suc is.long; holds = is.holds; least = under }
    where
      under : (y : List Bool) → length y ≡ suc n → P y → number_of (true ∷ x) ≤ number_of y
      under [] len h = absurd (omega (arith, len))
      under (false ∷ y) len h = absurd (apart (false ∷ y) h (none y (omega (arith, len))))
      under (true ∷ y) len h =
          let less = is.least y (omega (arith, len)) h in
          let long : length x ≡ length y = omega (arith, is.long, len) in
          let power : 2 ^ length x ≡ 2 ^ length y = ap (λ k. 2 ^ k) long in
          omega (arith, less, power)

  both_halves : (N : List Bool → Type 0) (n : ℕ) → ((y : List Bool) → length y ≡ n → N (false ∷ y)) → ((y : List Bool) → length y ≡ n → N (true ∷ y)) → (y : List Bool) → length y ≡ suc n → N y
  both_halves N n low high [] len = absurd (omega (arith, len))
  both_halves N n low high (false ∷ y) len = low y (omega (arith, len))
  both_halves N n low high (true ∷ y) len = high y (omega (arith, len))

  pub least_or_none : (P N : List Bool → Type 0) → ((y : List Bool) → P y → N y → ⊥) → (n : ℕ) → ((y : List Bool) → length y ≡ n → P y ⊎ N y) → ((x : List Bool) × IsLeast P n x) ⊎ ((y : List Bool) → length y ≡ n → N y)
  least_or_none P N apart zero each = elim (each [] refl) [
    | inl holds ↦ inl ([], record { long = refl; holds = holds; least = λ y len h. omega arith })
    | inr none ↦ inr (λ y len. subst N (sym (nil_from_length y len)) none)
  ]
  least_or_none P N apart (suc n) each = elim (least_or_none (λ y. P (false ∷ y)) (λ y. N (false ∷ y)) (λ y. apart (false ∷ y)) n (λ y len. each (false ∷ y) (ap suc len))) [
    | inl one ↦ inl (false ∷ one.0, least_low P n one.0 one.1)
    | inr low ↦ elim (least_or_none (λ y. P (true ∷ y)) (λ y. N (true ∷ y)) (λ y. apart (true ∷ y)) n (λ y len. each (true ∷ y) (ap suc len))) [
      | inl one ↦ inl (true ∷ one.0, least_high P N n one.0 apart low one.1)
      | inr high ↦ inr (both_halves N n low high)
    ]
  ]
