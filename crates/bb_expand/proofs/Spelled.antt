-- Numbers that are spelled in bits one after another, and how large powers of two are.
use Rattle.std.proofs.Common.{◌≡◌, ℕ, ◌+◌, ◌*◌, ◌-◌, ◌<◌, ◌≤◌, ◌^◌, ◌%◌, suc, Bool, false, List, [], ◌∷◌, ◌++◌, length, take, set, Vec, vec_len, append_assoc, sym, ap, ◌∙◌, inl, inr, arith}
use Rattle.std.specs.Prelude.{nat_le, if◌then◌else◌}
use Rattle.std.proofs.lemmas.Bool.{cases_lt}
use Rattle.std.proofs.lemmas.List.{take_more_set, with_items_is}
use Rattle.std.proofs.lemmas.Bool.Decides.{nat_tests}
use Rattle.std.proofs.lemmas.Nat.{pow_below, mul-le, one_shl}
use Rattle.std.specs.Vec.{with_items}
use Rattle.bb_lemmas.proofs.Tests.{le_to_test}
use Rattle.bb_bits.specs.Numbers.{bits_of}

-- one more bit is spelled
pub spelled_more : (bits all : List Bool) (n i k rest : ℕ) → length bits ≡ n → i < n → n ≡ i + suc k → take i bits ++ bits_of (n - i) rest ≡ all
    → take (i + 1) (set bits i (nat_le (2 ^ k) rest)) ++ bits_of (n - (i + 1)) (if nat_le (2 ^ k) rest then rest - 2 ^ k else rest) ≡ all
spelled_more bits all n i k rest len within left so_far =
    let now : n - i ≡ suc k = omega arith in
    let next : n - (i + 1) ≡ k = omega arith in
    ap (λ prefix. prefix ++ bits_of (n - (i + 1)) (if nat_le (2 ^ k) rest then rest - 2 ^ k else rest)) (take_more_set bits i (nat_le (2 ^ k) rest) (omega arith))
    ∙ append_assoc (take i bits) (nat_le (2 ^ k) rest ∷ []) (bits_of (n - (i + 1)) (if nat_le (2 ^ k) rest then rest - 2 ^ k else rest))
    ∙ ap (λ m. take i bits ++ nat_le (2 ^ k) rest ∷ bits_of m (if nat_le (2 ^ k) rest then rest - 2 ^ k else rest)) next
    ∙ ap (λ m. take i bits ++ bits_of m rest) (sym now)
    ∙ so_far

nat_le-false : (a b : ℕ) → b < a → nat_le a b ≡ false
nat_le-false a b h = grind (arith, nat_tests)

-- what is left of a number after a bit
pub left_taken : (power rest now : ℕ) → power ≤ rest → now ≡ rest - power → now ≡ (if nat_le power rest then rest - power else rest)
left_taken power rest now h e = rw (le_to_test power rest h) e

pub left_whole : (power rest now : ℕ) → rest < power → now ≡ rest → now ≡ (if nat_le power rest then rest - power else rest)
left_whole power rest now h e = rw (nat_le-false power rest h) e

-- the same with a power that is shifted into its place
pub spelled_step : (bits all : List Bool) (n i power rest now : ℕ) → length bits ≡ n → i < n → n ≤ 31 → power ≡ 1 * 2 ^ (n - 1 - i) % 2 ^ 32 → now ≡ (if nat_le power rest then rest - power else rest)
    → take i bits ++ bits_of (n - i) rest ≡ all → take (i + 1) (set bits i (nat_le power rest)) ++ bits_of (n - (i + 1)) now ≡ all
spelled_step bits all n i power rest now len within few is left so_far =
    let shifted : power ≡ 2 ^ (n - 1 - i) = is ∙ one_shl (n - 1 - i) 32 (omega arith) in
    ap (λ m. take (i + 1) (set bits i (nat_le power rest)) ++ bits_of (n - (i + 1)) m) left
    ∙ ap (λ q. take (i + 1) (set bits i (nat_le q rest)) ++ bits_of (n - (i + 1)) (if nat_le q rest then rest - q else rest)) shifted
    ∙ spelled_more bits all n i (n - 1 - i) rest len within (omega arith) so_far

-- a power of two is not below a higher one
pub few_doublings : (k n : ℕ) → 2 ^ k ≤ 2 ^ n → k ≤ n
few_doublings k n h = elim (cases_lt n k) [
  | inl more ↦ absurd (let p = pow_below n k more in omega (arith, p, h))
  | inr few ↦ few
]

-- a table with an output and at most so many bits has few inputs
pub few_inputs : (outs k n : ℕ) → 0 < outs → outs * 2 ^ k ≤ 2 ^ n → k ≤ n
few_inputs outs k n some small =
    let p : 1 * 2 ^ k ≤ outs * 2 ^ k = mul-le 1 (2 ^ k) outs (2 ^ k) some (omega arith) in
    few_doublings k n (omega (arith, p, small))

-- what a list holds after a number was spelled into it
pub spelled_bits : {Z : Type 0} (v : Vec Bool Z) (old new : List Bool) (n number : ℕ) → vec_len v ≡ n → length old ≡ vec_len v → length new ≡ length old → new ≡ bits_of (length old) number → (with_items v new).items ≡ bits_of n number
spelled_bits v old new n number len same kept is = with_items_is v new (kept ∙ same) ∙ is ∙ ap (λ m. bits_of m number) (same ∙ len)
