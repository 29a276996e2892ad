-- The trail and the clauses while they grow and shrink.
use Rattle.std.proofs.Common.{◌≡◌, ◌<◌, ◌≤◌, ℕ, zero, suc, Bool, true, false, ◌||◌, Option, Some, None, IfSome, List, [], ◌∷◌, ◌++◌, length, take, slice_get, refl, sym, ◌∙◌, ap, subst, ◌⊎◌, inl, inr}
use Rattle.std.proofs.lemmas.List.{take-take, map-append}
use Rattle.std.proofs.lemmas.Option.{slice_get_within, get_or_from_slice_get}
use Rattle.std.specs.List.{list_any}
use Rattle.std.proofs.lemmas.List.Folds.{list_any_at}
use Rattle.bb_lemmas.proofs.Places.{got_left}
use Rattle.smallvec.specs.SmallVec.{SmallVec}
use Rattle.bb_cnf.specs.declared.clauses.Lit.{Lit}
use Rattle.bb_cnf.specs.Clauses.{lists_of, same_literal}
use Rattle.bb_cdcl.specs.declared.trail.Entry.{Entry}
use Rattle.bb_cdcl.specs.Inside.Trails.{opposite, falsified, value_at, is_bit, IsNew, IsReason, AreNew, HaveReasons, AreValues}
use Rattle.bb_cdcl.proofs.Literals.{no_clash, opposite_twice, same_literal-itself}
use Rattle.bb_cdcl.proofs.Assigned.{false_in_range}

pub get_last : {A : Type 0} (xs : List A) (x : A) → slice_get (xs ++ x ∷ []) (length xs) ≡ Some x
get_last [] x = refl
get_last (y ∷ xs) x = get_last xs x

-- an element of a list with one more, and what precedes it
pub old_or_last : {A : Type 0} (xs : List A) (x : A) (k : ℕ) (y : A) → slice_get (xs ++ x ∷ []) k ≡ Some y
    → ((slice_get xs k ≡ Some y) × (take k (xs ++ x ∷ []) ≡ take k xs)) ⊎ ((x ≡ y) × (take k (xs ++ x ∷ []) ≡ xs))
old_or_last [] x zero y e = inr ((let s : Some x ≡ Some y = e in cc), refl)
old_or_last [] x (suc k) y e = absurd (let g : None ≡ Some y = e in cc)
old_or_last (z ∷ xs) x zero y e = inl (e, refl)
old_or_last (z ∷ xs) x (suc k) y e = elim (old_or_last xs x k y e) as (λ _. ((slice_get xs k ≡ Some y) × (z ∷ take k (xs ++ x ∷ []) ≡ z ∷ take k xs)) ⊎ ((x ≡ y) × (z ∷ take k (xs ++ x ∷ []) ≡ z ∷ xs))) [
  | inl old ↦ inl (old.0, ap (λ t. z ∷ t) old.1)
  | inr last ↦ inr (last.0, ap (λ t. z ∷ t) last.1)
]

pub of_prefix : {A : Type 0} (xs : List A) (p k : ℕ) (y : A) → slice_get (take p xs) k ≡ Some y → (slice_get xs k ≡ Some y) × (take k (take p xs) ≡ take k xs)
of_prefix [] zero k y e = (e, refl)
of_prefix [] (suc p) k y e = (e, refl)
of_prefix (x ∷ xs) zero k y e = absurd (let g : None ≡ Some y = e in cc)
of_prefix (x ∷ xs) (suc p) zero y e = (e, refl)
of_prefix (x ∷ xs) (suc p) (suc k) y e = let rest = of_prefix xs p k y e in (rest.0, ap (λ t. x ∷ t) rest.1)

-- a literal without a value is new
pub free_is_new : (entries : List Entry) (values : List (Option Bool)) (l : Lit) → AreValues entries values → value_at values l.var ≡ None → IsNew entries l
free_is_new entries values l are free =
    (sym (are l) ∙ ap (λ o. is_bit o l.neg) free, sym (are (opposite l)) ∙ ap (λ o. is_bit o (opposite l).neg) free)

-- and a new literal has no value
pub new_is_free : (entries : List Entry) (values : List (Option Bool)) (l : Lit) → AreValues entries values → IsNew entries l → value_at values l.var ≡ None
new_is_free entries values l are new = neither (value_at values l.var) l.neg (are l ∙ new.0) (are (opposite l) ∙ new.1) where
  neither : (o : Option Bool) (s : Bool) → is_bit o s ≡ false → is_bit o (opposite (record { var = 0; neg = s })).neg ≡ false → o ≡ None
  neither None s a b = refl
  neither (Some true) true a b = no_clash (sym a)
  neither (Some true) false a b = no_clash (sym b)
  neither (Some false) true a b = no_clash (sym b)
  neither (Some false) false a b = no_clash (sym a)

pub new_push : (entries : List Entry) (e : Entry) → AreNew entries → IsNew entries e.lit → AreNew (entries ++ e ∷ [])
new_push entries e before new i d occurs = elim (old_or_last entries e i d occurs) as (λ _. IsNew (take i (entries ++ e ∷ [])) d.lit) [
  | inl old ↦ subst (λ (es : List Entry). IsNew es d.lit) (sym old.1) (before i d old.0)
  | inr last ↦ subst (λ (es : List Entry). IsNew es d.lit) (sym last.1) (subst (λ (k : Entry). IsNew entries k.lit) last.0 new)
]

pub reasons_push : (clauses : List (List Lit)) (entries : List Entry) (e : Entry) → HaveReasons clauses entries → IfSome e.reason (IsReason clauses entries e.lit) → HaveReasons clauses (entries ++ e ∷ [])
reasons_push clauses entries e before reason i d occurs = elim (old_or_last entries e i d occurs) as (λ _. IfSome d.reason (IsReason clauses (take i (entries ++ e ∷ [])) d.lit)) [
  | inl old ↦ subst (λ (es : List Entry). IfSome d.reason (IsReason clauses es d.lit)) (sym old.1) (before i d old.0)
  | inr last ↦ subst (λ (es : List Entry). IfSome d.reason (IsReason clauses es d.lit)) (sym last.1) (subst (λ (k : Entry). IfSome k.reason (IsReason clauses entries k.lit)) last.0 reason)
]

pub new_prefix : (entries : List Entry) (p : ℕ) → AreNew entries → AreNew (take p entries)
new_prefix entries p before i d occurs = let f = of_prefix entries p i d occurs in subst (λ (es : List Entry). IsNew es d.lit) (sym f.1) (before i d f.0)

pub reasons_prefix : (clauses : List (List Lit)) (entries : List Entry) (p : ℕ) → HaveReasons clauses entries → HaveReasons clauses (take p entries)
reasons_prefix clauses entries p before i d occurs =
    let f = of_prefix entries p i d occurs in subst (λ (es : List Entry). IfSome d.reason (IsReason clauses es d.lit)) (sym f.1) (before i d f.0)

pub more_reason : (clauses : List (List Lit)) (c : List Lit) (prefix : List Entry) (l : Lit) (o : Option ℕ) → IfSome o (IsReason clauses prefix l) → IfSome o (IsReason (clauses ++ c ∷ []) prefix l)
more_reason clauses c prefix l None reason = tt
more_reason clauses c prefix l (Some r) reason = record {
  clause = reason.clause;
  occurs = got_left clauses (c ∷ []) r reason.clause reason.occurs;
  own = reason.own;
  others = reason.others;
}

pub more_reasons : (clauses : List (List Lit)) (c : List Lit) (entries : List Entry) → HaveReasons clauses entries → HaveReasons (clauses ++ c ∷ []) entries
more_reasons clauses c entries before i d occurs = more_reason clauses c (take i entries) d.lit d.reason (before i d occurs)

pub lists_of-push : (clauses : List (SmallVec Lit)) (c : SmallVec Lit) → lists_of (clauses ++ c ∷ []) ≡ lists_of clauses ++ c.items ∷ []
lists_of-push clauses c = map-append (λ (k : SmallVec Lit). k.items) clauses (c ∷ [])

pub any_prefix : {A : Type 0} (p : A → Bool) (xs : List A) (n : ℕ) → list_any p xs ≡ false → list_any p (take n xs) ≡ false
any_prefix p [] zero none = refl
any_prefix p [] (suc n) none = refl
any_prefix p (x ∷ xs) zero none = refl
any_prefix p (x ∷ xs) (suc n) none =
    let parts = neither (p x) (list_any p xs) none in ap (λ b. b || list_any p (take n xs)) parts.0 ∙ any_prefix p xs n parts.1 where
      neither : (a b : Bool) → (a || b) ≡ false → (a ≡ false) × (b ≡ false)
      neither true b e = no_clash (sym e)
      neither false b e = (refl, e)

-- what is new stays new under a shorter trail
pub still_new : (entries : List Entry) (place back : ℕ) (l : Lit) → back ≤ place → IsNew (take place entries) l → IsNew (take back entries) (opposite l)
still_new entries place back l before new =
    let shorter : (m : Lit) → falsified (take place entries) m ≡ false → falsified (take back entries) m ≡ false =
    λ m none. ap (λ es. falsified es m) (sym (take-take back place entries before)) ∙ any_prefix (λ e. same_literal (opposite e.lit) m) (take place entries) back none in
    (shorter (opposite l) new.1, ap (falsified (take back entries)) (opposite_twice l) ∙ shorter l new.0)

pub entry_in_range : (entries : List Entry) (values : List (Option Bool)) (place : ℕ) (e : Entry) → AreValues entries values → slice_get entries place ≡ Some e → e.lit.var < length values
entry_in_range entries values place e are occurs =
    false_in_range values (opposite e.lit)
    (are (opposite e.lit)
    ∙ list_any_at (λ d. same_literal (opposite d.lit) (opposite e.lit)) entries place e (slice_get_within entries place e occurs)
    (ap (λ (d : Entry). same_literal (opposite d.lit) (opposite e.lit)) (get_or_from_slice_get entries place e e occurs) ∙ same_literal-itself (opposite e.lit)))
