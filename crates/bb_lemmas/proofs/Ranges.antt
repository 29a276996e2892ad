-- Numbers in a row.
use Rattle.std.proofs.Common.{◌+◌, ◌++◌, ◌∷◌, [], ap₂, ◌<◌, ◌≡◌, ◌≤◌, ◌⊎◌, Contains, ap, arith, inl, inr, length, refl, subst, suc, zero, ℕ, map, ◌∙◌}
use Rattle.std.specs.List.{range_with_len}
use Rattle.bb_lemmas.proofs.Members.{contains_cases, contains_here, contains_there, none_in_nil}
use Rattle.bb_lemmas.proofs.Orders.{less_or_same}
use Rattle.std.proofs.lemmas.List.{length-map}

pub length-range : (a n : ℕ) → length (range_with_len a n) ≡ n
length-range a zero = refl
length-range a (suc n) = ap suc (length-range (a + 1) n)

pub range_there : (a n k : ℕ) → a ≤ k → k < a + n → Contains (range_with_len a n) k
range_there a zero k low high = absurd (omega (arith, low, high))
range_there a (suc n) k low high = by (less_or_same a k) (λ h. range_there (a + 1) n k (omega (arith, h)) (omega (arith, high)))
  where
    by : (a < k) ⊎ ((k < a) ⊎ (a ≡ k)) → (a < k → Contains (range_with_len (a + 1) n) k) → Contains (range_with_len a (suc n)) k
    by (inl h) rest = contains_there a (range_with_len (a + 1) n) k (rest h)
    by (inr (inl h)) rest = absurd (omega (arith, h, low))
    by (inr (inr e)) rest = subst (Contains (range_with_len a (suc n))) e (contains_here a (range_with_len (a + 1) n))

pub from_range : (a n k : ℕ) → Contains (range_with_len a n) k → (a ≤ k) × (k < a + n)
from_range a zero k has = absurd (none_in_nil k has)
from_range a (suc n) k has = by (contains_cases a (range_with_len (a + 1) n) k has) (from_range (a + 1) n k)
  where
    by : (a ≡ k) ⊎ Contains (range_with_len (a + 1) n) k → (Contains (range_with_len (a + 1) n) k → (a + 1 ≤ k) × (k < a + 1 + n)) → (a ≤ k) × (k < a + suc n)
    by (inl e) rest = (omega (arith, e), omega (arith, e))
    by (inr more) rest = let r = rest more in (omega (arith, r.0), omega (arith, r.1))

pub length-run : {A : Type 0} (f : ℕ → A) (a n : ℕ) → length (map f (range_with_len a n)) ≡ n
length-run f a n = length-map (range_with_len a n) f ∙ length-range a n

-- two parts of a row, and its last number
pub range_parts : (a n m : ℕ) → range_with_len a (n + m) ≡ range_with_len a n ++ range_with_len (a + n) m
range_parts a zero m = ap₂ range_with_len (omega arith) (omega arith)
range_parts a (suc n) m =
    let one : suc n + m ≡ suc (n + m) = omega arith in
    ap (range_with_len a) one ∙ ap (λ l. a ∷ l) (range_parts (a + 1) n m ∙ ap (λ b. range_with_len (a + 1) n ++ range_with_len b m) (omega arith))

pub range_last : (a n : ℕ) → range_with_len a (n + 1) ≡ range_with_len a n ++ (a + n) ∷ []
range_last a n = range_parts a n 1

pub range_last_from_zero : (n : ℕ) → range_with_len 0 (n + 1) ≡ range_with_len 0 n ++ n ∷ []
range_last_from_zero n = range_last 0 n ∙ ap (λ k. range_with_len 0 n ++ k ∷ []) (omega arith)
