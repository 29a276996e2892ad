-- A resolution with the reason of a literal.
use Rattle.std.proofs.Common.{◌≡◌, ◌<◌, ℕ, length, Bool, true, false, not, ◌&&◌, ◌||◌, ◌==◌, if◌then◌else◌, Option, Some, None, option_map, option_and_then, List, [], ◌∷◌, ◌++◌, map, slice_get, refl, sym, ◌∙◌, ap, ◌⊎◌, inl, inr}
use Rattle.std.proofs.lemmas.Option.{slice_get-map, slice_get_within}
use Rattle.bb_lemmas.proofs.Bits.{and_both, or_cases, both_true}
use Rattle.bb_cnf.specs.declared.clauses.Lit.{Lit}
use Rattle.bb_cnf.specs.declared.partial_resolvent.PartialResolvent.{PartialResolvent}
use Rattle.bb_cnf.specs.Clauses.{Literals, literals_of, same_literal, positive, negated}
use Rattle.bb_cnf.specs.Chains.{resolvent, resolution, chain}
use Rattle.bb_cnf.specs.Laws.{ChainLaws}
use Rattle.bb_cnf.specs.Inside.PartialResolvent.{held, AreListed}
use Rattle.bb_cdcl.specs.declared.trail.Entry.{Entry}
use Rattle.bb_cdcl.specs.Inside.Trails.{opposite, falsified, IsNew, IsReason}
use Rattle.bb_cdcl.specs.Inside.Analysis.{AreFalsified, IsResolved}
use Rattle.bb_cdcl.proofs.Literals.{no_clash, falsified-push}

-- a choice of two, of which one may be taken
second_taken : {A : Type 0} (a b : Bool) (e f : A) → b ≡ true → (if a then Some e else (if b then Some f else None)) ≡ None → ⊥
second_taken true b e f h n = absurd (let clash : Some e ≡ None = n in cc)
second_taken false true e f h n = absurd (let clash : Some f ≡ None = n in cc)
second_taken false false e f h n = no_clash h

first_taken : {A : Type 0} (a : Bool) (e : A) (o : Option A) → a ≡ true → (if a then Some e else o) ≡ None → ⊥
first_taken true e o h n = absurd (let clash : Some e ≡ None = n in cc)
first_taken false e o h n = no_clash h

pub which : {A : Type 0} (a b : Bool) (e f g : A) → (if a then Some e else (if b then Some f else None)) ≡ Some g → ((a ≡ true) × (e ≡ g)) ⊎ ((a ≡ false) × (f ≡ g))
which true b e f g is = inl (refl, let s : Some e ≡ Some g = is in cc)
which false true e f g is = inr (refl, let s : Some f ≡ Some g = is in cc)
which false false e f g is = absurd (let s : None ≡ Some g = is in cc)

abbrev pub lit_of : ℕ → Bool → Lit
lit_of x s = record { var = x; neg = s }

-- the one clause has the negation of the literal, the other has the literal: they can be resolved
resolves_by : (x : ℕ) (s : Bool) (c d : Literals) → c (opposite (lit_of x s)) ≡ true → d (lit_of x s) ≡ true → resolution c d x ≡ None → ⊥
resolves_by x false c d mine yours none = second_taken (c (positive x) && d (negated x)) _ _ _ (both_true (c (negated x)) (d (positive x)) mine yours) none
resolves_by x true c d mine yours none = first_taken (c (positive x) && d (negated x)) _ _ (both_true (c (positive x)) (d (negated x)) mine yours) none

pub resolves : (l : Lit) (c d e : Literals) (yes : Bool) → c (opposite l) ≡ true → d l ≡ true
    → (yes ≡ true → resolution c d l.var ≡ Some e) → (yes ≡ false → resolution c d l.var ≡ None) → resolution c d l.var ≡ Some e
resolves l c d e true mine yours some none = some refl
resolves l c d e false mine yours some none = absurd (resolves_by l.var l.neg c d mine yours (none refl))

-- what is left after the literal and its negation are resolved away
pub own_resolvent : (f c d : Literals) (l : Lit) → ((m : Lit) → c m ≡ true → (f m || same_literal (opposite l) m) ≡ true)
    → ((m : Lit) → d m ≡ true → (same_literal l m || f m) ≡ true) → (m : Lit) → resolvent c d (opposite l) l m ≡ true → f m ≡ true
own_resolvent f c d l mine yours m is =
    elim (or_cases (c m && not (same_literal (opposite l) m)) (d m && not (same_literal l m)) is) as (λ _. f m ≡ true) [
      | inl left ↦ let parts = and_both (c m) (not (same_literal (opposite l) m)) left in first_of (f m) (same_literal (opposite l) m) (mine m parts.0) parts.1
      | inr right ↦ let parts = and_both (d m) (not (same_literal l m)) right in second_of (same_literal l m) (f m) (yours m parts.0) parts.1
    ] where
      first_of : (a b : Bool) → (a || b) ≡ true → not b ≡ true → a ≡ true
      first_of true b e n = refl
      first_of false true e n = n
      first_of false false e n = e

      second_of : (a b : Bool) → (a || b) ≡ true → not a ≡ true → b ≡ true
      second_of true b e n = no_clash n
      second_of false b e n = e

resolved_by : (x : ℕ) (s : Bool) (f c d e : Literals) → f (lit_of x s) ≡ false → same_literal (opposite (lit_of x s)) (lit_of x s) ≡ false
    → ((m : Lit) → c m ≡ true → (f m || same_literal (opposite (lit_of x s)) m) ≡ true)
    → ((m : Lit) → d m ≡ true → (same_literal (lit_of x s) m || f m) ≡ true)
    → c (opposite (lit_of x s)) ≡ true → d (lit_of x s) ≡ true
    → resolution c d x ≡ Some e → (m : Lit) → e m ≡ true → f m ≡ true
resolved_by x false f c d e new apart mine yours has_own has_other is m member =
    elim (which (c (positive x) && d (negated x)) _ _ _ e is) as (λ _. f m ≡ true) [
      | inl first ↦ no_clash (sym (ap (λ b. b || same_literal (opposite (lit_of x false)) (lit_of x false)) new ∙ apart) ∙ mine (positive x) (and_both (c (positive x)) (d (negated x)) first.0).0)
      | inr second ↦ own_resolvent f c d (lit_of x false) mine yours m (ap (λ k. k m) second.1 ∙ member)
    ]
resolved_by x true f c d e new apart mine yours has_own has_other is m member =
    elim (which (c (positive x) && d (negated x)) _ _ _ e is) as (λ _. f m ≡ true) [
      | inl first ↦ own_resolvent f c d (lit_of x true) mine yours m (ap (λ k. k m) first.1 ∙ member)
      | inr second ↦ no_clash (sym second.0 ∙ both_true (c (positive x)) (d (negated x)) has_own has_other)
    ]

pub not_opposite : (x : ℕ) (s : Bool) → same_literal (opposite (lit_of x s)) (lit_of x s) ≡ false
not_opposite x true = none (x == x) where
  none : (b : Bool) → (b && false) ≡ false
  none true = refl
  none false = refl
not_opposite x false = none (x == x) where
  none : (b : Bool) → (b && false) ≡ false
  none true = refl
  none false = refl

pub resolved_falsified : (clauses : List (List Lit)) (prefix : List Entry) (last : Entry) (l : Lit) (r : ℕ) (clause : List Lit) (c e : Literals) → IsNew prefix l → IsReason clauses prefix l r
    → slice_get clauses r ≡ Some clause → last.lit ≡ l → c (opposite l) ≡ true
    → AreFalsified (prefix ++ last ∷ []) c → resolution c (literals_of clause) l.var ≡ Some e → AreFalsified prefix e
resolved_falsified clauses prefix last l r clause c e new reason occurs is has_own all resolved =
    let same : reason.clause ≡ clause = (let s : Some reason.clause ≡ Some clause = sym reason.occurs ∙ occurs in cc) in
    resolved_by l.var l.neg (falsified prefix) c (literals_of clause) e new.0 (not_opposite l.var l.neg)
    (λ m member. ap (λ k. falsified prefix m || same_literal (opposite k) m) (sym is) ∙ sym (falsified-push prefix last m) ∙ all m member)
    (λ m member. reason.others m (ap (λ k. literals_of k m) same ∙ member))
    has_own (ap (λ k. literals_of k l) (sym same) ∙ reason.own) resolved

pub reason_has : (clauses : List (List Lit)) (prefix : List Entry) (l : Lit) (r : ℕ) (clause : List Lit) → IsReason clauses prefix l r → slice_get clauses r ≡ Some clause → literals_of clause l ≡ true
reason_has clauses prefix l r clause reason occurs =
    let same : reason.clause ≡ clause = (let s : Some reason.clause ≡ Some clause = sym reason.occurs ∙ occurs in cc) in
    ap (λ k. literals_of k l) (sym same) ∙ reason.own

one_pair : (earlier : List Literals) (c d e : Literals) (r x : ℕ) → slice_get earlier r ≡ Some d → resolution c d x ≡ Some e → chain earlier c ((r, x) ∷ []) ≡ Some e
one_pair earlier c d e r x occurs resolved =
    ap (option_and_then (λ n. option_and_then (λ k. Some k) (resolution c n x))) occurs ∙ ap (option_and_then (λ k. Some k)) resolved

-- one more resolution at the end of a chain
pub resolved_more : ChainLaws → (clauses : List (List Lit)) (first : Literals) (pairs : List (ℕ × ℕ)) (old new : PartialResolvent) (r x : ℕ) (clause : List Lit)
    → IsResolved clauses first pairs old → slice_get clauses r ≡ Some clause → resolution (held old) (literals_of clause) x ≡ Some (held new) → AreListed new
    → IsResolved clauses first (pairs ++ (r, x) ∷ []) new
resolved_more laws clauses first pairs old new r x clause before occurs resolved listed = record {
  made = laws.chain_in_parts (map literals_of clauses) first pairs ((r, x) ∷ [])
      ∙ ap (option_and_then (λ d. chain (map literals_of clauses) d ((r, x) ∷ []))) before.made
      ∙ one_pair (map literals_of clauses) (held old) (literals_of clause) (held new) r x (slice_get-map literals_of clauses r ∙ ap (option_map literals_of) occurs) resolved;
  listed = listed;
}

pub reason_below : (clauses : List (List Lit)) (prefix : List Entry) (l : Lit) (r : ℕ) → IsReason clauses prefix l r → r < length clauses
reason_below clauses prefix l r reason = slice_get_within clauses r reason.clause reason.occurs
