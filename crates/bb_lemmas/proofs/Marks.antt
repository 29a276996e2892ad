-- Marks of places: how many are left.
use Rattle.std.proofs.Common.{◌+◌, ◌<◌, ◌∷◌, ◌≡◌, Bool, List, [], arith, false, get_or, length, set, suc, sym, true, true≢false, zero, ℕ}
use Rattle.std.specs.Prelude.{if◌then◌else◌, replicate, slice_index_or}

-- how many are not marked
unfoldable pub unmarked : List Bool → ℕ
unmarked [] = 0
unmarked (b ∷ marks) = (if b then 0 else 1) + unmarked marks

pub unmarked_less : (marks : List Bool) (k : ℕ) → k < length marks → slice_index_or marks k false ≡ false → unmarked (set marks k true) < unmarked marks
unfolding unmarked
unmarked_less [] k lt off = absurd (omega (arith, lt))
unmarked_less (true ∷ marks) zero lt off = absurd (true≢false off)
unmarked_less (false ∷ marks) zero lt off = omega arith
unmarked_less (b ∷ marks) (suc k) lt off = let rest = unmarked_less marks k (omega (arith, lt)) off in omega (arith, rest)

pub unmarked_at : (n k : ℕ) → get_or (replicate n false) k false ≡ true → ⊥
unmarked_at zero k on = true≢false (sym on)
unmarked_at (suc n) zero on = true≢false (sym on)
unmarked_at (suc n) (suc k) on = unmarked_at n k on
