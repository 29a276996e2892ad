-- Sums that stop at a greatest number, element by element; and what is in a checked module is as narrow as a net may be.
use Rattle.std.proofs.Common.{◌≡◌, ◌⊎◌, ℕ, ◌+◌, ◌-◌, ◌≤◌, ◌<◌, Bool, true, false, filter, List, [], ◌∷◌, ◌++◌, map, length, take, drop, get_or, All, Option, Some, None, refl, sym, ap, ◌∙◌, subst, inl, inr, arith}
use Rattle.std.specs.Prelude.{if◌then◌else◌, sum_by, min, slice_get, IsSomeAnd}
use Rattle.std.specs.List.{flat_map}
use Rattle.std.specs.Option.{option_and_then}
use Rattle.std.proofs.lemmas.List.{length-map, length-drop, drop-map, drop_all, get_or-map, map_more, map-append, take_more, take_all}
use Rattle.std.proofs.lemmas.List.Elements.{All-contains}
use Rattle.std.proofs.lemmas.List.Sums.{sum_by-cons, sum_by_push, sum_by-append}
use Rattle.bb_ast.specs.declared.expr.Expr.{Expr}
use Rattle.bb_ast.specs.declared.module.Gate.{Gate}
use Rattle.bb_ast.specs.Gates.{output_count}
use Rattle.bb_ast.specs.Syntax.{Expression}
use Rattle.bb_ast.specs.Inside.Views.{expression}
use Rattle.bb_names.specs.Inside.Checked.{ModuleFacts, syntax, IsChecked}
use Rattle.bb_names.specs.Declarations.{range_of}
use Rattle.bb_names.specs.Widths.{own_width}
use Rattle.bb_expr.specs.Inside.Fit.{AreFit, ranges_in}
use Rattle.bb_expr.specs.Laws.FitLaws.{OccurrencesAreFit}
use Rattle.bb_expr.specs.Inside.Occurrences.{OccursAt, ranges_at}
use Rattle.bb_hier.specs.Inside.Weights.{inputs_of}
use Rattle.bb_lemmas.proofs.Members.{all_from, contains-map, into_flat}
use Rattle.bb_lemmas.proofs.Orders.{less_or_not}

pub two_shares : (m a b first second result : ℕ) → first ≡ min m a → second ≡ min m b → result ≡ min (first + second) m → result ≡ min m (a + b)
two_shares m a b first second result x y is = omega (arith, x, y, is)

-- the greatest number is m
module _ {X Y : Type 0} (g : Y → ℕ) (f : X → Y) (xs : List X) (i : ℕ) (m : ℕ) where
  -- one element more
  pub share_more : (x : X) (before here now : ℕ) → i < length xs → x ≡ get_or xs i x
      → before ≡ min m (sum_by g (map f (take i xs))) → here ≡ min m (g (f x)) → now ≡ min (before + here) m → now ≡ min m (sum_by g (map f (take (i + 1) xs)))
  share_more x before here now within at so_far more is =
      two_shares m (sum_by g (map f (take i xs))) (g (f x)) before here now so_far more is
      ∙ ap (min m) (sym (ap (sum_by g) (map_more f xs i x within ∙ ap (λ y. map f (take i xs) ++ f y ∷ []) (sym at)) ∙ sum_by_push g (map f (take i xs)) (f x)))

  -- and all of them
  pub share_all : (total : ℕ) → length xs ≤ i → total ≡ min m (sum_by g (map f (take i xs))) → total ≡ min m (sum_by g (map f xs))
  share_all total past is = is ∙ ap (λ ys. min m (sum_by g (map f ys))) (take_all i xs past)

pub sum_flat : {X Y : Type 0} (g : Y → ℕ) (f : X → List Y) (xs : List X) → sum_by g (flat_map f xs) ≡ sum_by (λ x. sum_by g (f x)) xs
sum_flat g f [] = refl
sum_flat g f (x ∷ xs) = sum_by-append g (f x) (flat_map f xs) ∙ ap (λ n. sum_by g (f x) + n) (sum_flat g f xs) ∙ sym (sum_by-cons (λ y. sum_by g (f y)) x xs)

-- what holds of all elements holds of the one that the loop is at
pub all_here : {X Y : Type 0} (P : Y → Type 0) (f : X → Y) (xs : List X) (i : ℕ) (x : X) → i < length xs → x ≡ get_or xs i x → All P (map f xs) → P (f x)
all_here P f xs i x within at all = subst P (get_or-map f xs i x (f x) within ∙ ap f (sym at)) (all i (f x) (omega (arith, within, length-map xs f)))

pub all_within : {X Y Z : Type 0} (P : Z → Type 0) (h : Y → List Z) (f : X → Y) (xs : List X) (i : ℕ) (x : X) → i < length xs → x ≡ get_or xs i x → All P (flat_map h (map f xs)) → All P (h (f x))
all_within P h f xs i x within at all =
    all_from P (h (f x)) (λ z has. All-contains P (flat_map h (map f xs)) z all (into_flat h (map f xs) (f x) z (contains-map f xs x (i, within, sym at)) has))

-- what is in a module

some_at_place : {A : Type 0} (P : A → Type 0) (o : Option A) → IsSomeAnd o P → (x : A) × (o ≡ Some x) × P x
some_at_place P None h = absurd h
some_at_place P (Some x) h = (x, refl, h)

pub ranges_there : (checked : List ModuleFacts) (k : ℕ) (m : ModuleFacts) → slice_get checked k ≡ Some m → ranges_at checked k ≡ ranges_in m
ranges_there checked k m at = ap (λ o. λ (n : List ℕ). option_and_then (λ (m : ModuleFacts). range_of (syntax m) n) o) at

pub occurs_narrow : (checked : List ModuleFacts) (k : ℕ) (e : Expression) → OccurrencesAreFit → IsChecked checked → OccursAt checked k e → own_width (ranges_at checked k) e ≤ 65536
occurs_narrow checked k e law ok occurs =
    let m = some_at_place (λ m. AreFit m e) (slice_get checked k) (law checked k e ok occurs) in
    subst (λ r. own_width r e ≤ 65536) (sym (ranges_there checked k m.0 m.1)) (m.2.each 0 e (omega arith)).bounded

-- the inputs of a gate

take_whole : {A : Type 0} (n k : ℕ) (xs : List A) → k ≡ min n (length xs) → take (length xs - k) (drop k xs) ≡ drop n xs
take_whole {A = A} n k xs is = take_all (length xs - k) (drop k xs) (omega (arith, length-drop k xs)) ∙ by (less_or_not n (length xs))
  where
    by : (n < length xs) ⊎ (length xs ≤ n) → drop k xs ≡ drop n xs
    by (inl lt) = let same : k ≡ n = omega (arith, is, lt) in ap (λ j. drop j xs) same
    by (inr past) = drop_all k xs (omega (arith, is, past)) ∙ sym (drop_all n xs past)

pub inputs_there : (gate : Gate) (terms : List Expr) (k : ℕ) → k ≡ min (output_count gate (length terms)) (length terms) → map expression (take (length terms - k) (drop k terms)) ≡ inputs_of gate (map expression terms)
inputs_there gate terms k is =
    ap (map expression) (take_whole (output_count gate (length terms)) k terms is) ∙ sym (drop-map expression (output_count gate (length terms)) terms)
    ∙ ap (λ n. drop (output_count gate n) (map expression terms)) (sym (length-map terms expression))

-- sums over a list as it is
module _ {X : Type 0} (g : X → ℕ) (xs : List X) (i : ℕ) (m : ℕ) where
  pub share_step : (x : X) (before here now : ℕ) → i < length xs → x ≡ get_or xs i x → before ≡ min m (sum_by g (take i xs)) → here ≡ min m (g x) → now ≡ min (before + here) m → now ≡ min m (sum_by g (take (i + 1) xs))
  share_step x before here now within at so_far more is =
      two_shares m (sum_by g (take i xs)) (g x) before here now so_far more is
      ∙ ap (min m) (sym (ap (sum_by g) (take_more xs i x within ∙ ap (λ y. take i xs ++ y ∷ []) (sym at)) ∙ sum_by_push g (take i xs) x))

  pub share_end : (total : ℕ) → length xs ≤ i → total ≡ min m (sum_by g (take i xs)) → total ≡ min m (sum_by g xs)
  share_end total past is = is ∙ ap (λ ys. min m (sum_by g ys)) (take_all i xs past)

pub sum_kept : {X : Type 0} (p : X → Bool) (g : X → ℕ) (xs : List X) → sum_by g (filter p xs) ≡ sum_by (λ x. if p x then g x else 0) xs
sum_kept p g [] = refl
sum_kept p g (x ∷ xs) = by (p x) ∙ ap (λ n. (if p x then g x else 0) + n) (sum_kept p g xs) ∙ sym (sum_by-cons (λ x. if p x then g x else 0) x xs)
  where
    by : (b : Bool) → sum_by g (if b then x ∷ filter p xs else filter p xs) ≡ (if b then g x else 0) + sum_by g (filter p xs)
    by true = sum_by-cons g x (filter p xs)
    by false = omega arith

pub turned : (m a result : ℕ) → result ≡ min a m → result ≡ min m a
turned m a result is = omega (arith, is)

pub one_added : (m n before result : ℕ) → 1 ≤ m → before ≡ min m n → result ≡ min (before + 1) m → result ≡ min m (n + 1)
one_added m n before result le so_far is = omega (arith, le, so_far, is)

pub maps_more : {A B C D : Type 0} (f : C → D) (g : B → C) (h : A → B) (xs : List A) (i : ℕ) (x : A) → i < length xs → x ≡ get_or xs i x
    → map f (map g (map h (take (i + 1) xs))) ≡ map f (map g (map h (take i xs))) ++ f (g (h x)) ∷ []
maps_more f g h xs i x within at =
    ap (λ l. map f (map g l)) (map_more h xs i x within ∙ ap (λ y. map h (take i xs) ++ h y ∷ []) (sym at)) ∙ ap (map f) (map-append g (map h (take i xs)) (h x ∷ []))
    ∙ map-append f (map g (map h (take i xs))) (g (h x) ∷ [])
