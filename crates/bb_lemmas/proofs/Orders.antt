-- Of two numbers it can be reported which is less.
use Rattle.std.proofs.Common.{◌+◌, ◌<◌, ◌≡◌, ◌≤◌, ◌⊎◌, ap, arith, inl, inr, refl, suc, zero, ℕ}

pub less_or_same : (m n : ℕ) → (m < n) ⊎ ((n < m) ⊎ (m ≡ n))
less_or_same zero zero = inr (inr refl)
less_or_same zero (suc n) = inl (omega arith)
less_or_same (suc m) zero = inr (inl (omega arith))
less_or_same (suc m) (suc n) = step (less_or_same m n)
  where
    step : (m < n) ⊎ ((n < m) ⊎ (m ≡ n)) → (suc m < suc n) ⊎ ((suc n < suc m) ⊎ (suc m ≡ suc n))
    step (inl h) = inl (omega (arith, h))
    step (inr (inl h)) = inr (inl (omega (arith, h)))
    step (inr (inr h)) = inr (inr (ap suc h))

pub less_or_not : (m n : ℕ) → (m < n) ⊎ (n ≤ m)
less_or_not m n = from (less_or_same m n)
  where
    from : (m < n) ⊎ ((n < m) ⊎ (m ≡ n)) → (m < n) ⊎ (n ≤ m)
    from (inl h) = inl h
    from (inr (inl h)) = inr (omega (arith, h))
    from (inr (inr h)) = inr (omega (arith, h))

pub less_or_past : (k n : ℕ) → (k < n) ⊎ (n ≤ k)
less_or_past k zero = inr (omega arith)
less_or_past zero (suc n) = inl (omega arith)
less_or_past (suc k) (suc n) = from (less_or_past k n)
  where
    from : (k < n) ⊎ (n ≤ k) → (suc k < suc n) ⊎ (suc n ≤ suc k)
    from (inl h) = inl (omega (arith, h))
    from (inr h) = inr (omega (arith, h))

pub plus_one : (n : ℕ) → n + 1 ≡ suc n
plus_one n = omega arith

pub same_or_less : (n k : ℕ) → n ≤ k → (k ≡ n) ⊎ (n < k)
same_or_less zero zero le = inl refl
same_or_less zero (suc k) le = inr (omega arith)
same_or_less (suc n) zero le = absurd (omega (arith, le))
same_or_less (suc n) (suc k) le = by (same_or_less n k (omega (arith, le)))
  where
    by : (k ≡ n) ⊎ (n < k) → (suc k ≡ suc n) ⊎ (suc n < suc k)
    by (inl e) = inl (ap suc e)
    by (inr lt) = inr (omega (arith, lt))
