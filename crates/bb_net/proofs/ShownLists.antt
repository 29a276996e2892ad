-- What is shown of one box more, and sums over what is shown.
use Rattle.std.proofs.Common.{◌≡◌, ℕ, ◌≤◌, zero, suc, Bool, true, false, ◌||◌, List, [], ◌∷◌, ◌++◌, length, zip, refl, sym, ap, ◌∙◌, arith}
use Rattle.std.specs.Prelude.{Contains, sum_by, if◌then◌else◌}
use Rattle.std.proofs.lemmas.Bool.{eq-eqb, ne_eqb}
use Rattle.std.proofs.lemmas.List.{append-nil, append_assoc}
use Rattle.std.proofs.lemmas.List.Sums.{sum_by-cons}
use Rattle.bb_bits.specs.Earlier.{each_from}
use Rattle.bb_net.specs.Kinds.{has_kind, representatives}
use Rattle.bb_net.proofs.KindLists.{gives, or_true, or_false}

each_more : {A B : Type 0} (f : List A → A → List B) (before xs : List A) (y : A) → each_from f before (xs ++ y ∷ []) ≡ each_from f before xs ++ f (before ++ xs) y
each_more f before [] y = append-nil (f before y) ∙ ap (λ zs. f zs y) (sym (append-nil before))
each_more f before (x ∷ xs) y =
    ap (λ zs. f before x ++ zs) (each_more f (before ++ x ∷ []) xs y ∙ ap (λ zs. each_from f (before ++ x ∷ []) xs ++ f zs y) (append_assoc before (x ∷ []) xs))
    ∙ sym (append_assoc (f before x) (each_from f (before ++ x ∷ []) xs) (f (before ++ x ∷ xs) y))

zip_more : {A : Type 0} (ks : List ℕ) (xs : List A) (k : ℕ) (x : A) → length xs ≡ length ks → zip (ks ++ k ∷ []) (xs ++ x ∷ []) ≡ zip ks xs ++ (k, x) ∷ []
zip_more [] [] k x len = refl
zip_more [] (y ∷ xs) k x len = absurd (omega (arith, len))
zip_more (l ∷ ks) [] k x len = absurd (omega (arith, len))
zip_more (l ∷ ks) (y ∷ xs) k x len = ap (λ zs. (l, y) ∷ zs) (zip_more ks xs k x (omega (arith, len)))

kind_there : {A : Type 0} (ks : List ℕ) (xs : List A) (k : ℕ) → length xs ≡ length ks → Contains ks k → has_kind k (zip ks xs) ≡ true
kind_there [] xs k len has = absurd (omega (arith, has.1))
kind_there (l ∷ ks) [] k len has = absurd (omega (arith, len))
kind_there (l ∷ ks) (y ∷ xs) k len (zero, h, e) = ap (λ b. b || has_kind k (zip ks xs)) (eq-eqb l k e)
kind_there (l ∷ ks) (y ∷ xs) k len (suc a, h, e) = or_true _ (has_kind k (zip ks xs)) (kind_there ks xs k (omega (arith, len)) (a, omega (arith, h), e))

kind_missing : {A : Type 0} (ks : List ℕ) (xs : List A) (k : ℕ) → (Contains ks k → ⊥) → has_kind k (zip ks xs) ≡ false
kind_missing [] xs k none = refl
kind_missing (l ∷ ks) [] k none = refl
kind_missing (l ∷ ks) (y ∷ xs) k none =
    or_false _ (has_kind k (zip ks xs)) (ne_eqb l k (λ e. none (zero, omega arith, e))) (kind_missing ks xs k (λ has. none (suc has.0, omega (arith, has.1), has.2)))

shown_more : {A : Type 0} (ks : List ℕ) (xs : List A) (k : ℕ) (x : A) → length xs ≡ length ks → representatives (ks ++ k ∷ []) (xs ++ x ∷ []) ≡ representatives ks xs ++ (if has_kind k (zip ks xs) then [] else x ∷ [])
shown_more ks xs k x len = ap (each_from gives []) (zip_more ks xs k x len) ∙ each_more gives [] (zip ks xs) (k, x)

module _ {A : Type 0} where
  -- a box of a kind that precedes is left out
  pub shown_again : (ks : List ℕ) (xs : List A) (k : ℕ) (x : A) → length xs ≡ length ks → Contains ks k → representatives (ks ++ k ∷ []) (xs ++ x ∷ []) ≡ representatives ks xs
  shown_again ks xs k x len has = shown_more ks xs k x len ∙ ap (λ b. representatives ks xs ++ (if b then [] else x ∷ [])) (kind_there ks xs k len has) ∙ append-nil (representatives ks xs)

  -- and one of a new kind is shown after the others
  pub shown_new : (ks : List ℕ) (xs : List A) (k : ℕ) (x : A) → length xs ≡ length ks → (Contains ks k → ⊥) → representatives (ks ++ k ∷ []) (xs ++ x ∷ []) ≡ representatives ks xs ++ x ∷ []
  shown_new ks xs k x len none = shown_more ks xs k x len ∙ ap (λ b. representatives ks xs ++ (if b then [] else x ∷ [])) (kind_missing ks xs k none)

given_sum : {A : Type 0} (f : A → ℕ) (b : Bool) (x : A) (rest xs : List A) → sum_by f rest ≤ sum_by f xs → sum_by f ((if b then [] else x ∷ []) ++ rest) ≤ sum_by f (x ∷ xs)
given_sum f true x rest xs less = omega (arith, less, sum_by-cons f x xs)
given_sum f false x rest xs less = omega (arith, less, sum_by-cons f x xs, sum_by-cons f x rest)

shown_sum_from : {A : Type 0} (f : A → ℕ) (before : List (ℕ × A)) (ks : List ℕ) (xs : List A) → sum_by f (each_from gives before (zip ks xs)) ≤ sum_by f xs
shown_sum_from f before [] [] = omega arith
shown_sum_from f before [] (x ∷ xs) = omega (arith, shown_sum_from f before [] xs, sum_by-cons f x xs)
shown_sum_from f before (k ∷ ks) [] = omega arith
shown_sum_from f before (k ∷ ks) (x ∷ xs) = given_sum f (has_kind k before) x (each_from gives (before ++ (k, x) ∷ []) (zip ks xs)) xs (shown_sum_from f (before ++ (k, x) ∷ []) ks xs)

-- what is shown sums up to no more than all
pub shown_sum : {A : Type 0} (f : A → ℕ) (ks : List ℕ) (xs : List A) → sum_by f (representatives ks xs) ≤ sum_by f xs
shown_sum f ks xs = shown_sum_from f [] ks xs
