-- Loops over lists that are seen through a function: what holds of each at the one that the loop is at, and what is left.
use Rattle.std.proofs.Common.{◌≡◌, ◌+◌, ◌-◌, ◌<◌, ℕ, List, ◌∷◌, length, take, drop, map, get_or, sym, ◌∙◌, ap, arith}
use Rattle.std.specs.Prelude.{sum_by}
use Rattle.std.proofs.lemmas.List.{at_drop_more}
use Rattle.std.proofs.lemmas.List.Sums.{sum_by-cons}
use Rattle.bb_expr.proofs.ShareLemmas.{sum-more}

-- the rest of a list, at the element that the loop is at
pub rest-here : {X Y Z : Type 0} (F : List Y → Z) (f : X → Y) (xs : List X) (i : ℕ) (x : X) → i < length xs → x ≡ get_or xs i x → F (map f (drop i xs)) ≡ F (f x ∷ map f (drop (i + 1) xs))
rest-here F f xs i x within at = at_drop_more (λ ys. F (map f ys)) xs i x within ∙ ap (λ y. F (f y ∷ map f (drop (i + 1) xs))) (sym at)

pub sum-here : {X Y : Type 0} (g : Y → ℕ) (f : X → Y) (xs : List X) (i : ℕ) (x : X) → i < length xs → x ≡ get_or xs i x → sum_by g (map f (drop i xs)) ≡ g (f x) + sum_by g (map f (drop (i + 1) xs))
sum-here g f xs i x within at = rest-here (sum_by g) f xs i x within at ∙ sum_by-cons g (f x) (map f (drop (i + 1) xs))

-- a loop from the last element on: what is left before it, and it
pub last-share : {X Y : Type 0} (g : Y → ℕ) (f : X → Y) (xs : List X) (turn : ℕ) (x : X) → turn < length xs → x ≡ get_or xs (length xs - 1 - turn) x
    → sum_by g (map f (take (length xs - turn) xs)) ≡ sum_by g (map f (take (length xs - 1 - turn) xs)) + g (f x)
last-share g f xs turn x within at =
    ap (λ k. sum_by g (map f (take k xs))) (next (length xs) turn within) ∙ sum-more g f xs (length xs - 1 - turn) x (omega (arith, within)) at
  where
    next : (n turn : ℕ) → turn < n → n - turn ≡ (n - 1 - turn) + 1
    next n turn within = omega (arith, within)
