-- lanes of words
use Rattle.std.proofs.Common.{◌≡◌, ◌≢◌, ◌*◌, ◌<◌, ◌-◌, ◌^◌, ◌==◌, ℕ, zero, suc, Bool, true, false, not, ◌&&◌, ◌||◌, min, max, Option, Some, None, bit_and, bit_or, bit_xor, refl, ap, ◌∙◌, w64, ◌+◌, ◌%◌, arith}
use Rattle.std.specs.Int.{bit_at, bit_not}
use Rattle.std.proofs.lemmas.Nat.Bits.{bit_at-lt, bit_at_and, bit_at_or, bit_at_xor, bit_at_not, bit_at-zero, bit_at_ones, bit_at_set_same, bit_at_set_other}
use Rattle.bb_bits.specs.Bits.{xor}
use Rattle.bb_net.specs.Ternary.{and3, or3, xor3, mux3}
use Rattle.bb_tern.specs.Inside.Lanes.{lane, is_one, is_zero}

-- a digit below 2 is 0 or 1
by_digits : (P : ℕ → ℕ → Type 0) → P 0 0 → P 0 1 → P 1 0 → P 1 1 → (m n : ℕ) → m < 2 → n < 2 → P m n
by_digits P a b c d zero zero h g = a
by_digits P a b c d zero (suc zero) h g = b
by_digits P a b c d (suc zero) zero h g = c
by_digits P a b c d (suc zero) (suc zero) h g = d
by_digits P a b c d zero (suc (suc n)) h g = absurd (omega (arith, g))
by_digits P a b c d (suc zero) (suc (suc n)) h g = absurd (omega (arith, g))
by_digits P a b c d (suc (suc m)) n h g = absurd (omega (arith, h))

pub lane_and : (a b k : ℕ) → lane (bit_and a b) k ≡ (lane a k && lane b k)
lane_and a b k =
    ap (λ d. d == 1) (bit_at_and a b k)
    ∙ by_digits (λ m n. (min m n == 1) ≡ ((m == 1) && (n == 1))) refl refl refl refl (bit_at a k) (bit_at b k) (bit_at-lt a k) (bit_at-lt b k)

pub lane_or : (a b k : ℕ) → lane (bit_or a b) k ≡ (lane a k || lane b k)
lane_or a b k =
    ap (λ d. d == 1) (bit_at_or a b k)
    ∙ by_digits (λ m n. (max m n == 1) ≡ ((m == 1) || (n == 1))) refl refl refl refl (bit_at a k) (bit_at b k) (bit_at-lt a k) (bit_at-lt b k)

pub lane_xor : (a b k : ℕ) → lane (bit_xor a b) k ≡ xor (lane a k) (lane b k)
lane_xor a b k =
    ap (λ d. d == 1) (bit_at_xor a b k)
    ∙ by_digits (λ m n. ((m + n) % 2 == 1) ≡ xor (m == 1) (n == 1)) refl refl refl refl (bit_at a k) (bit_at b k) (bit_at-lt a k) (bit_at-lt b k)

pub lane_not : (a k : ℕ) → a < 2 ^ 64 → k < 64 → lane (bit_not w64 a) k ≡ not (lane a k)
lane_not a k small l =
    ap (λ d. d == 1) (bit_at_not w64 a k small l)
    ∙ by_digits (λ m n. ((1 - m) == 1) ≡ not (m == 1)) refl refl refl refl (bit_at a k) 0 (bit_at-lt a k) (omega arith)

pub lane_zero : (k : ℕ) → lane 0 k ≡ false
lane_zero k = ap (λ d. d == 1) (bit_at-zero k)

pub lane_ones : (k : ℕ) → k < 64 → lane (2 ^ 64 - 1) k ≡ true
lane_ones k l = ap (λ d. d == 1) (bit_at_ones 64 k l)

pub lane_set_same : (n k : ℕ) → n < 2 ^ 64 → k < 64 → lane (bit_or n (1 * 2 ^ k % 2 ^ 64)) k ≡ true
lane_set_same n k small l = ap (λ d. d == 1) (bit_at_set_same w64 n k l)

pub lane_set_other : (n k i : ℕ) → n < 2 ^ 64 → k < 64 → i ≢ k → lane (bit_or n (1 * 2 ^ k % 2 ^ 64)) i ≡ lane n i
lane_set_other n k i small l other = ap (λ d. d == 1) (bit_at_set_other w64 n k l i other)

pub and_known : (p q : Option Bool) → ((is_one p && is_one q) ≡ is_one (and3 p q)) × ((is_zero p || is_zero q) ≡ is_zero (and3 p q))
and_known None None = (refl, refl)
and_known None (Some true) = (refl, refl)
and_known None (Some false) = (refl, refl)
and_known (Some true) None = (refl, refl)
and_known (Some true) (Some true) = (refl, refl)
and_known (Some true) (Some false) = (refl, refl)
and_known (Some false) None = (refl, refl)
and_known (Some false) (Some true) = (refl, refl)
and_known (Some false) (Some false) = (refl, refl)

pub or_known : (p q : Option Bool) → ((is_one p || is_one q) ≡ is_one (or3 p q)) × ((is_zero p && is_zero q) ≡ is_zero (or3 p q))
or_known None None = (refl, refl)
or_known None (Some true) = (refl, refl)
or_known None (Some false) = (refl, refl)
or_known (Some true) None = (refl, refl)
or_known (Some true) (Some true) = (refl, refl)
or_known (Some true) (Some false) = (refl, refl)
or_known (Some false) None = (refl, refl)
or_known (Some false) (Some true) = (refl, refl)
or_known (Some false) (Some false) = (refl, refl)

pub xor_known : (p q : Option Bool) →
    ((is_one p && is_zero q || is_zero p && is_one q) ≡ is_one (xor3 p q)) × ((is_one p && is_one q || is_zero p && is_zero q) ≡ is_zero (xor3 p q))
xor_known None None = (refl, refl)
xor_known None (Some true) = (refl, refl)
xor_known None (Some false) = (refl, refl)
xor_known (Some true) None = (refl, refl)
xor_known (Some true) (Some true) = (refl, refl)
xor_known (Some true) (Some false) = (refl, refl)
xor_known (Some false) None = (refl, refl)
xor_known (Some false) (Some true) = (refl, refl)
xor_known (Some false) (Some false) = (refl, refl)

-- what a condition chooses of two bits, or what they have in common
abbrev pub taken : Option Bool → Bool → Bool → Bool
taken p t e = (is_one p && t || is_zero p && e) || t && e

pub mux_known : (p q r : Option Bool) → (taken p (is_one q) (is_one r) ≡ is_one (mux3 p q r)) × (taken p (is_zero q) (is_zero r) ≡ is_zero (mux3 p q r))
mux_known None None None = (refl, refl)
mux_known None None (Some true) = (refl, refl)
mux_known None None (Some false) = (refl, refl)
mux_known None (Some true) None = (refl, refl)
mux_known None (Some true) (Some true) = (refl, refl)
mux_known None (Some true) (Some false) = (refl, refl)
mux_known None (Some false) None = (refl, refl)
mux_known None (Some false) (Some true) = (refl, refl)
mux_known None (Some false) (Some false) = (refl, refl)
mux_known (Some true) None None = (refl, refl)
mux_known (Some true) None (Some true) = (refl, refl)
mux_known (Some true) None (Some false) = (refl, refl)
mux_known (Some true) (Some true) None = (refl, refl)
mux_known (Some true) (Some true) (Some true) = (refl, refl)
mux_known (Some true) (Some true) (Some false) = (refl, refl)
mux_known (Some true) (Some false) None = (refl, refl)
mux_known (Some true) (Some false) (Some true) = (refl, refl)
mux_known (Some true) (Some false) (Some false) = (refl, refl)
mux_known (Some false) None None = (refl, refl)
mux_known (Some false) None (Some true) = (refl, refl)
mux_known (Some false) None (Some false) = (refl, refl)
mux_known (Some false) (Some true) None = (refl, refl)
mux_known (Some false) (Some true) (Some true) = (refl, refl)
mux_known (Some false) (Some true) (Some false) = (refl, refl)
mux_known (Some false) (Some false) None = (refl, refl)
mux_known (Some false) (Some false) (Some true) = (refl, refl)
mux_known (Some false) (Some false) (Some false) = (refl, refl)
