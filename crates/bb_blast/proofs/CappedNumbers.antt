-- Sums of 32 bits: a sum that is capped twice is capped once, and a small number is not changed.
use Rattle.std.proofs.Common.{◌≡◌, ℕ, zero, suc, ◌+◌, ◌-◌, ◌<◌, ◌≤◌, ◌^◌, List, [], ◌∷◌, map, All, refl, ap, ap₂, ◌∙◌, arith}
use Rattle.std.specs.Prelude.{min}
use Rattle.std.specs.List.{range_with_len}
use Rattle.std.proofs.lemmas.List.Elements.{All-head, All-tail}
use Rattle.bb_blast.specs.Inside.Counting.{capped, after}

min_first : (m a b : ℕ) → min (min a m + b) m ≡ min (a + b) m
min_first m a b = omega arith

min_second : (m a b : ℕ) → min (a + min b m) m ≡ min (a + b) m
min_second m a b = omega arith

min_again : (m a : ℕ) → min (min a m) m ≡ min a m
min_again m a = omega arith

min_small : (m n : ℕ) → n < suc m → min n m ≡ n
min_small m n lt = omega (arith, lt)

pub capped_first : (a b : ℕ) → capped (capped a + b) ≡ capped (a + b)
unfolding capped
capped_first a b = min_first (2 ^ 32 - 1) a b

pub capped_second : (a b : ℕ) → capped (a + capped b) ≡ capped (a + b)
unfolding capped
capped_second a b = min_second (2 ^ 32 - 1) a b

pub capped_again : (a : ℕ) → capped (capped a) ≡ capped a
unfolding capped
capped_again a = min_again (2 ^ 32 - 1) a

pub capped_small : (n : ℕ) → n < 2 ^ 32 → capped n ≡ n
unfolding capped
capped_small n lt = min_small (2 ^ 32 - 1) n lt

-- two sums one after the other
pub after_first : (a b c : ℕ) → after (after a b) c ≡ after a (b + c)
after_first a b c = capped_first (a + b) c ∙ ap capped (omega arith)

pub after_second : (a b c : ℕ) → after a (after b c) ≡ after a (b + c)
after_second a b c = capped_second a (b + c)

pub moved_small : (base : ℕ) (numbers : List ℕ) → All (λ i. base + i < 2 ^ 32) numbers → map (after base) numbers ≡ map (λ i. base + i) numbers
moved_small base [] few = refl
moved_small base (n ∷ numbers) few =
    ap₂ ◌∷◌ (capped_small (base + n) (All-head (λ i. base + i < 2 ^ 32) n numbers few)) (moved_small base numbers (All-tail (λ i. base + i < 2 ^ 32) n numbers few))

-- a row of small numbers
row_below : (m a n : ℕ) → ((k : ℕ) → k < m → capped k ≡ k) → a + n ≤ m → map capped (range_with_len a n) ≡ range_with_len a n
row_below m a zero small few = refl
row_below m a (suc n) small few = ap₂ ◌∷◌ (small a (omega (arith, few))) (row_below m (a + 1) n small (omega (arith, few)))

pub row_small : (n : ℕ) → n ≤ 2 ^ 32 → map capped (range_with_len 0 n) ≡ range_with_len 0 n
row_small n few = row_below (2 ^ 32) 0 n capped_small (omega (arith, few))
