-- The first of a list is one thing, and so is the first that is there already.
use Rattle.std.proofs.Common.{◌++◌, ◌<◌, ◌∙◌, ◌∷◌, ◌≡◌, ◌≢◌, ◌⊎◌, AllPairs, Contains, List, ap, arith, get_or, inl, inr, length, refl, sym, ℕ}
use Rattle.std.proofs.lemmas.List.{get_or_append_left, get_or_at, length-append}
use Rattle.bb_bits.specs.Closures.{IsFirst, IsFirstRepeat}
use Rattle.bb_lemmas.proofs.Orders.{less_or_same}

module _ {A : Type 0} where
  -- what is at the place of an element, and before it
  pub at_place : (xs before after : List A) (x d : A) → xs ≡ before ++ x ∷ after → get_or xs (length before) d ≡ x
  at_place xs before after x d e = ap (λ l. get_or l (length before) d) e ∙ get_or_at before x after d (length before) refl

  pub before_place : (xs before after : List A) (x d : A) (k : ℕ) → xs ≡ before ++ x ∷ after → k < length before → get_or before k d ≡ get_or xs k d
  before_place xs before after x d k e lt = sym (get_or_append_left before (x ∷ after) d k lt) ∙ sym (ap (λ l. get_or l k d) e)

  pub place_within : (xs before after : List A) (x : A) → xs ≡ before ++ x ∷ after → length before < length xs
  place_within xs before after x e = omega (arith, ap length e, length-append before (x ∷ after))

  pub first_there : (P : A → Type 0) (xs : List A) (x : A) → IsFirst P xs x → Contains xs x
  first_there P xs x r = (length r.before, place_within xs r.before r.after x r.occurs, at_place xs r.before r.after x x r.occurs)

  pub first_clash : (P : A → Type 0) (xs : List A) (x y : A) (r : IsFirst P xs x) (s : IsFirst P xs y) → length r.before < length s.before → ⊥
  first_clash P xs x y r s lt = s.earlier x (length r.before, lt, before_place xs s.before s.after y x (length r.before) s.occurs lt ∙ at_place xs r.before r.after x x r.occurs) r.holds

  pub first_one : (P : A → Type 0) (xs : List A) (x y : A) → IsFirst P xs x → IsFirst P xs y → x ≡ y
  first_one P xs x y r s = from (less_or_same (length r.before) (length s.before))
    where
      from : (length r.before < length s.before) ⊎ ((length s.before < length r.before) ⊎ (length r.before ≡ length s.before)) → x ≡ y
      from (inl h) = absurd (first_clash P xs x y r s h)
      from (inr (inl h)) = absurd (first_clash P xs y x s r h)
      from (inr (inr h)) = sym (at_place xs r.before r.after x x r.occurs) ∙ ap (λ n. get_or xs n x) h ∙ at_place xs s.before s.after y x s.occurs

  pub repeat_clash : (xs : List A) (x y : A) (r : IsFirstRepeat xs x) (s : IsFirstRepeat xs y) → length r.before < length s.before → ⊥
  repeat_clash xs x y r s lt =
      let k = r.again.0 in let within = r.again.1 in
      let first : get_or s.before k x ≡ x = before_place xs s.before s.after y x k s.occurs (omega (arith, within, lt)) ∙ sym (before_place xs r.before r.after x x k r.occurs within) ∙ r.again.2 in
      let second : get_or s.before (length r.before) x ≡ x = before_place xs s.before s.after y x (length r.before) s.occurs lt ∙ at_place xs r.before r.after x x r.occurs in
      s.earlier k (length r.before) x within lt (first ∙ sym second)

  pub repeat_one : (xs : List A) (x y : A) → IsFirstRepeat xs x → IsFirstRepeat xs y → x ≡ y
  repeat_one xs x y r s = from (less_or_same (length r.before) (length s.before))
    where
      from : (length r.before < length s.before) ⊎ ((length s.before < length r.before) ⊎ (length r.before ≡ length s.before)) → x ≡ y
      from (inl h) = absurd (repeat_clash xs x y r s h)
      from (inr (inl h)) = absurd (repeat_clash xs y x s r h)
      from (inr (inr h)) = sym (at_place xs r.before r.after x x r.occurs) ∙ ap (λ n. get_or xs n x) h ∙ at_place xs s.before s.after y x s.occurs

  pub repeat_not_apart : (xs : List A) (x : A) → IsFirstRepeat xs x → AllPairs ◌≢◌ xs → ⊥
  repeat_not_apart xs x r apart =
      let k = r.again.0 in let within = r.again.1 in
      let first : get_or xs k x ≡ x = sym (before_place xs r.before r.after x x k r.occurs within) ∙ r.again.2 in
      apart k (length r.before) x within (place_within xs r.before r.after x r.occurs) (first ∙ sym (at_place xs r.before r.after x x r.occurs))
