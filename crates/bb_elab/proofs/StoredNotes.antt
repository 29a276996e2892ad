-- Register bits noted at their numbers, one after another.
use Rattle.std.proofs.Common.{if◌then◌else◌, ◌≡◌, ◌⊎◌, ◌+◌, ◌<◌, ◌++◌, ℕ, zero, suc, Bool, true, false, List, [], ◌∷◌, map, length, take, get_or, All, Option, Some, None, refl, sym, ap, ◌∙◌, subst, inl, inr, arith, append_assoc, true≢false}
use Rattle.std.specs.Prelude.{◌==◌, replicate, is_some}
use Rattle.std.specs.List.{find, filter_map, cons_option, slice_set}
use Rattle.std.proofs.lemmas.Bool.Decides.{nat_tests}
use Rattle.std.proofs.lemmas.List.{get_or-set_same, get_or-set_other, length-set, length-map, get_or-map, get_or_default}
use Rattle.std.proofs.lemmas.List.Elements.{filter_map-append}
use Rattle.bb_blast.specs.declared.stored.Stored.{Stored}
use Rattle.bb_elab.specs.Inside.StoredNumbers.{stored_from, IsStorable, AreNotes}
use Rattle.bb_lemmas.proofs.Turns.{prefix_more}
use Rattle.std.proofs.lemmas.List.Folds.{find-append}
use Rattle.std.specs.Option.{option_or}

or_none : {A : Type 0} (o : Option A) → option_or o None ≡ o
or_none (Some x) = refl
or_none None = refl

same_number : (n k : ℕ) → n ≡ k → (n == k) ≡ true
same_number n k same = grind (arith, nat_tests, same)

other_number : (n k : ℕ) → (n ≡ k → ⊥) → (n == k) ≡ false
other_number n k other = by (n == k) refl
  where
    by : (t : Bool) → (n == k) ≡ t → (n == k) ≡ false
    by true e = absurd (other (grind (arith, nat_tests, e)))
    by false e = e

same_or_other : (n k : ℕ) → (n ≡ k) ⊎ (n ≡ k → ⊥)
same_or_other zero zero = inl refl
same_or_other zero (suc k) = inr (λ e. omega (arith, e))
same_or_other (suc n) zero = inr (λ e. omega (arith, e))
same_or_other (suc n) (suc k) = by (same_or_other n k)
  where
    by : (n ≡ k) ⊎ (n ≡ k → ⊥) → (suc n ≡ suc k) ⊎ (suc n ≡ suc k → ⊥)
    by (inl e) = inl (ap suc e)
    by (inr other) = inr (λ e. other (omega (arith, e)))

module _ (all : List Stored) (notes : List (Option Stored)) (x : Stored) (there : x.bit < length notes) (noted : AreNotes all notes) where
  abbrev at : ℕ → Stored → Bool
  at k y = y.bit == k

  -- after others, what is noted elsewhere stays
  kept : (k : ℕ) → (x.bit ≡ k → ⊥) → k < length notes → get_or notes k None ≡ find (at k) (all ++ x ∷ [])
  kept k other lt = noted k lt ∙ sym (or_none (find (at k) all)) ∙ ap (λ (t : Bool). option_or (find (at k) all) (if t then Some x else None)) (sym (other_number x.bit k other)) ∙ sym (find-append (at k) all (x ∷ []))

  pub noted_first : get_or notes x.bit None ≡ None → AreNotes (all ++ x ∷ []) (slice_set notes x.bit (Some x))
  noted_first none k lt = by (same_or_other x.bit k)
    where
      within : k < length notes
      within = omega (arith, lt, length-set notes x.bit (Some x))

      here : get_or (slice_set notes x.bit (Some x)) x.bit None ≡ find (at x.bit) (all ++ x ∷ [])
      here = get_or-set_same notes x.bit (Some x) None there
          ∙ ap (λ (t : Bool). option_or None (if t then Some x else None)) (sym (same_number x.bit x.bit refl)) ∙ ap (λ o. option_or o (if x.bit == x.bit then Some x else None)) (sym none ∙ noted x.bit there) ∙ sym (find-append (at x.bit) all (x ∷ []))

      by : (x.bit ≡ k) ⊎ (x.bit ≡ k → ⊥) → get_or (slice_set notes x.bit (Some x)) k None ≡ find (at k) (all ++ x ∷ [])
      by (inl same) = subst (λ j. get_or (slice_set notes x.bit (Some x)) j None ≡ find (at j) (all ++ x ∷ [])) same here
      by (inr other) = get_or-set_other notes x.bit k (Some x) None (λ e. other (sym e)) ∙ kept k other within

  pub noted_before : (y : Stored) → get_or notes x.bit None ≡ Some y → AreNotes (all ++ x ∷ []) notes
  noted_before y some k lt = by (same_or_other x.bit k)
    where
      here : get_or notes x.bit None ≡ find (at x.bit) (all ++ x ∷ [])
      here = some ∙ ap (λ o. option_or o (if x.bit == x.bit then Some x else None)) (sym some ∙ noted x.bit there) ∙ sym (find-append (at x.bit) all (x ∷ []))

      by : (x.bit ≡ k) ⊎ (x.bit ≡ k → ⊥) → get_or notes k None ≡ find (at k) (all ++ x ∷ [])
      by (inl same) = subst (λ j. get_or notes j None ≡ find (at j) (all ++ x ∷ [])) same here
      by (inr other) = kept k other lt

pub noted_or_not : (all : List Stored) (notes : List (Option Stored)) (x : Stored) → x.bit < length notes → AreNotes all notes
    → (is_some (get_or notes x.bit None) ≡ false → AreNotes (all ++ x ∷ []) (slice_set notes x.bit (Some x))) × (is_some (get_or notes x.bit None) ≡ true → AreNotes (all ++ x ∷ []) notes)
noted_or_not all notes x there noted = by (get_or notes x.bit None) refl
  where
    by : (o : Option Stored) → get_or notes x.bit None ≡ o → (is_some o ≡ false → AreNotes (all ++ x ∷ []) (slice_set notes x.bit (Some x))) × (is_some o ≡ true → AreNotes (all ++ x ∷ []) notes)
    by None e = ((λ _. noted_first all notes x there noted e), (λ f. absurd (true≢false (sym f))))
    by (Some y) e = ((λ f. absurd (true≢false f)), (λ _. noted_before all notes x there noted y e))

-- these have been noted besides
abbrev pub NotesMore : List (Option Stored) → List (Option Stored) → List Stored → Type 0
NotesMore old new more = (all : List Stored) → AreNotes all old → AreNotes (all ++ more) new

pub notes_more : (a b c : List (Option Stored)) (xs ys zs : List Stored) → NotesMore a b xs → NotesMore b c ys → zs ≡ xs ++ ys → NotesMore a c zs
notes_more a b c xs ys zs first second same all was =
    subst (λ l. AreNotes l c) (append_assoc all xs ys ∙ ap (λ l. all ++ l) (sym same)) (second (all ++ xs) (first all was))

pub notes_whole : {A : Type 0} (f : List A → List Stored) (xs : List A) (k : ℕ) (a b : List (Option Stored)) → take k xs ≡ xs → NotesMore a b (f (take k xs)) → NotesMore a b (f xs)
notes_whole f xs k a b all noted = subst (λ l. NotesMore a b (f l)) all noted

pub kept_more : {A B : Type 0} (h : A → Option B) (xs : List A) (k : ℕ) (x d : A) (before now : List B) → k < length xs → get_or xs k d ≡ x → before ≡ filter_map h (take k xs) → now ≡ before ++ cons_option (h x) []
    → now ≡ filter_map h (take (k + 1) xs)
kept_more h xs k x d before now lt at was is =
    is ∙ ap (λ l. l ++ cons_option (h x) []) was ∙ sym (filter_map-append h (take k xs) (x ∷ [])) ∙ ap (filter_map h) (sym (prefix_more xs k x lt (sym at ∙ get_or_default xs k d x lt)))

pub no_notes_are : (notes : List (Option Stored)) (n : ℕ) → notes ≡ replicate n None → AreNotes [] notes
no_notes_are notes n is k lt = ap (λ l. get_or l k None) is ∙ none n k
  where
    none : (n k : ℕ) → get_or {A = Option Stored} (replicate n None) k None ≡ None
    none zero k = refl
    none (suc n) zero = refl
    none (suc n) (suc k) = none n k

-- the register bit made of one bit is there
pub storable_at : (n first : ℕ) (left : List ℕ) (clock : ℕ) (falling : Bool) (k : ℕ) → k < length left → All (IsStorable n) (stored_from first left clock falling) → (first + get_or left k 0 < n) × (first + clock < n)
storable_at n first left clock falling k lt all =
    let f : ℕ → Stored = λ x. (record { bit = first + x; clock = first + clock; falling = falling }) in
    storable_is n (get_or (map f left) k (f 0)) (f (get_or left k 0)) (get_or-map f left k 0 (f 0) lt) (all k (f 0) (omega (arith, lt, length-map left f)))
  where
    storable_is : (n : ℕ) (x y : Stored) → x ≡ y → IsStorable n x → IsStorable n y
    storable_is n x y same at = subst (IsStorable n) same at
