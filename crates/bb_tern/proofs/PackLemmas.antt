-- patterns as words
use Rattle.std.proofs.Common.{◌≡◌, ◌<◌, ◌≤◌, ℕ, zero, suc, Bool, List, [], ◌∷◌, map, length, get_or, refl, arith}
use Rattle.std.specs.Prelude.{All}

-- after the last entry
pub get_or-after : {X : Type 0} (xs : List X) (i : ℕ) (d : X) → length xs ≤ i → get_or xs i d ≡ d
get_or-after [] i d l = refl
get_or-after (x ∷ xs) zero d l = absurd (omega (arith, l))
get_or-after (x ∷ xs) (suc i) d l = get_or-after xs i d (omega (arith, l))

-- each pattern has so many bits
pub pattern_long : {X : Type 0} (view : X → List Bool) (xs : List X) (n k : ℕ) → All (λ x. length (view x) ≡ n) xs → k < length xs → length (get_or (map view xs) k []) ≡ n
pattern_long view [] n k all l = absurd (omega (arith, l))
pattern_long view (x ∷ xs) n zero all l = all 0 x (omega arith)
pattern_long view (x ∷ xs) n (suc k) all l = pattern_long view xs n k (λ j d h. all (suc j) d (omega (arith, h))) (omega (arith, l))
