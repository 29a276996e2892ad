-- What all instances below a module add, round by round, and what that is in the hierarchy.
use Rattle.std.proofs.Common.{◌≡◌, ℕ, zero, suc, ◌+◌, List, [], ◌∷◌, map, length, get_or, refl, ap, ◌∙◌, arith}
use Rattle.std.specs.Prelude.{sum_by, min, replicate, slice_index_or}
use Rattle.std.proofs.lemmas.List.{length-map}
use Rattle.std.proofs.lemmas.List.Sums.{sum_by-cons}
use Rattle.bb_hier.specs.Inside.Weights.{total_below}

-- totals after so many rounds
pub record AreTotals (m : ℕ) (lists : List (List ℕ)) (own : List ℕ) (n : ℕ) (totals : List ℕ) : Type 0 where
  pub long : length totals ≡ length lists
  pub sums : (k : ℕ) → slice_index_or totals k 0 ≡ min m (total_below lists (λ j. slice_index_or own j 0) n k)

map-at : {A B : Type 0} (f : A → B) (xs : List A) (k : ℕ) (d : A) → get_or (map f xs) k (f d) ≡ f (get_or xs k d)
map-at f [] k d = refl
map-at f (x ∷ xs) zero d = refl
map-at f (x ∷ xs) (suc k) d = map-at f xs k d

none_at : (n k : ℕ) → get_or {A = ℕ} (replicate n 0) k 0 ≡ 0
none_at zero k = refl
none_at (suc n) zero = refl
none_at (suc n) (suc k) = none_at n k

none_capped : (m : ℕ) → 0 ≡ min m 0
none_capped m = omega arith

pub add_capped : (m a b c d e f : ℕ) → min m a ≡ min m b → min m c ≡ min m d → e ≡ a + c → f ≡ b + d → min m e ≡ min m f
add_capped m a b c d e f x y p q = omega (arith, x, y, p, q)

-- sums that are the same as far as they are reported are so together
pub sum_capped : {X : Type 0} (m : ℕ) (f g : X → ℕ) → ((x : X) → min m (f x) ≡ min m (g x)) → (xs : List X) → min m (sum_by f xs) ≡ min m (sum_by g xs)
sum_capped m f g same [] = refl
sum_capped m f g same (x ∷ xs) = add_capped m (f x) (g x) (sum_by f xs) (sum_by g xs) _ _ (same x) (sum_capped m f g same xs) (sum_by-cons f x xs) (sum_by-cons g x xs)

pub total_capped : (m : ℕ) (lists : List (List ℕ)) (f g : ℕ → ℕ) → ((k : ℕ) → min m (f k) ≡ min m (g k)) → (n k : ℕ) → min m (total_below lists f n k) ≡ min m (total_below lists g n k)
total_capped m lists f g same zero k = refl
total_capped m lists f g same (suc n) k = sum_capped m (λ j. f j + total_below lists f n j) (λ j. g j + total_below lists g n j)
    (λ j. add_capped m (f j) (g j) (total_below lists f n j) (total_below lists g n j) _ _ (same j) (total_capped m lists f g same n j) refl refl) (slice_index_or lists k [])

pub no_totals : (m : ℕ) (lists : List (List ℕ)) (own totals : List ℕ) (n : ℕ) → totals ≡ replicate n 0 → n ≡ length lists → length totals ≡ n → AreTotals m lists own 0 totals
no_totals m lists own totals n is long whole = record { long = whole ∙ long; sums = λ k. ap (λ l. get_or l k 0) is ∙ none_at n k ∙ none_capped m }

pub more_totals : (m : ℕ) (lists : List (List ℕ)) (own totals next : List ℕ) (n : ℕ) → AreTotals m lists own n totals
    → next ≡ map (λ called. min m (sum_by (λ k. slice_index_or own k 0 + slice_index_or totals k 0) called)) lists → AreTotals m lists own (n + 1) next
more_totals m lists own totals next n before is = record { long = ap length is ∙ length-map lists _; sums = at }
  where
    h : ℕ → ℕ
    h k = slice_index_or own k 0 + slice_index_or totals k 0

    twice : (m a : ℕ) → min m (min m a) ≡ min m a
    twice m a = omega arith

    plus : (n : ℕ) → suc n ≡ n + 1
    plus n = omega arith

    empty : 0 ≡ min m (sum_by h [])
    empty = none_capped m

    next_at : (k : ℕ) → slice_index_or next k 0 ≡ min m (sum_by h (slice_index_or lists k []))
    next_at k = ap (λ l. get_or l k 0) is ∙ ap (get_or (map (λ called. min m (sum_by h called)) lists) k) empty ∙ map-at (λ called. min m (sum_by h called)) lists k []

    at : (k : ℕ) → slice_index_or next k 0 ≡ min m (total_below lists (λ j. slice_index_or own j 0) (n + 1) k)
    at k = next_at k ∙ sum_capped m h (λ j. slice_index_or own j 0 + total_below lists (λ j. slice_index_or own j 0) n j)
        (λ j. add_capped m (slice_index_or own j 0) (slice_index_or own j 0) (slice_index_or totals j 0) (total_below lists (λ j. slice_index_or own j 0) n j) _ _ refl (ap (min m) (before.sums j) ∙ twice m _) refl refl) (slice_index_or lists k [])
        ∙ ap (λ e. min m (total_below lists (λ j. slice_index_or own j 0) e k)) (plus n)
