-- Places of literals among the marks.
use Rattle.std.proofs.Common.{cond, ◌≡◌, ◌<◌, ◌+◌, ◌*◌, ℕ, Bool, true, false, not, ◌&&◌, ◌||◌, ◌==◌, if◌then◌else◌, List, get_or, set, length, All, refl, sym, ◌∙◌, ap, subst, arith, ◌⊎◌, inl, inr}
use Rattle.std.proofs.lemmas.List.{get_or-set_same, get_or-set_other}
use Rattle.std.proofs.lemmas.List.Sums.{sum_by-set}
use Rattle.std.proofs.lemmas.List.Folds.{Any-from_list_any}
use Rattle.bb_lemmas.proofs.Tests.{number_equal, number_self}
use Rattle.bb_lemmas.proofs.Maps.{or-false}
use Rattle.bb_lemmas.proofs.Members.{either}
use Rattle.bb_cnf.specs.declared.clauses.Lit.{Lit}
use Rattle.bb_cnf.specs.Clauses.{literals_of, same_literal}
use Rattle.bb_rup.specs.Propagation.{complement}
use Rattle.bb_rup.specs.Inside.Trails.{mark_place, marked, HasMarks, unmarked}
use Rattle.bb_rup.proofs.Literals.{clash, same_literal-is, same_literal-itself}

one_place : (x y : ℕ) (s t : Bool) → 2 * x + (if s then 1 else 0) ≡ 2 * y + (if t then 1 else 0) → (x ≡ y) × (s ≡ t)
one_place x y true true e = (omega (arith, e), refl)
one_place x y true false e = absurd (omega (arith, e))
one_place x y false true e = absurd (omega (arith, e))
one_place x y false false e = (omega (arith, e), refl)

-- literals that have one place are one
one_literal : (l m : Lit) → mark_place l ≡ mark_place m → l ≡ m
one_literal l m e =
    let parts = one_place l.var m.var l.neg m.neg e in
    let make : ℕ → Bool → Lit = λ x s. record { var = x; neg = s } in
    ap (λ x. make x l.neg) parts.0 ∙ ap (make m.var) parts.1

apart : (l m : Lit) → same_literal l m ≡ false → mark_place m ≡ mark_place l → ⊥
apart l m other e = clash (same_literal l m) (subst (λ k. same_literal l k ≡ true) (one_literal l m (sym e)) (same_literal-itself l)) other

-- of a list one element is set
pub marked-set : (marks : List Bool) (l : Lit) → mark_place l < length marks → (m : Lit) → marked (set marks (mark_place l) true) m ≡ (marked marks m || same_literal l m)
marked-set marks l within m = by (either (same_literal l m))
  where
    right : (b : Bool) → (b || true) ≡ true
    right true = refl
    right false = refl

    by : (same_literal l m ≡ true) ⊎ (same_literal l m ≡ false) → marked (set marks (mark_place l) true) m ≡ (marked marks m || same_literal l m)
    by (inl same) =
        ap (λ k. marked (set marks (mark_place l) true) k) (sym (same_literal-is l m same)) ∙ get_or-set_same marks (mark_place l) true false within
        ∙ sym (ap (λ b. marked marks m || b) same ∙ right (marked marks m))
    by (inr other) =
        get_or-set_other marks (mark_place l) (mark_place m) true false (apart l m other)
        ∙ sym (ap (λ b. marked marks m || b) other ∙ or-false (marked marks m))

-- what is true of the places is true of the literals
pub marked-unset : (old new : List Bool) (l : Lit) → ((k : ℕ) → get_or new k false ≡ (get_or old k false && not (k == mark_place l)))
    → (m : Lit) → marked new m ≡ (marked old m && not (same_literal l m))
marked-unset old new l is m = is (mark_place m) ∙ ap (λ b. marked old m && not b) (same (either (same_literal l m)))
  where
    same : (same_literal l m ≡ true) ⊎ (same_literal l m ≡ false) → (mark_place m == mark_place l) ≡ same_literal l m
    same (inl s) = ap (λ k. mark_place m == mark_place k) (same_literal-is l m s) ∙ number_self (mark_place m) ∙ sym s
    same (inr s) = by (either (mark_place m == mark_place l)) ∙ sym s
      where
        by : ((mark_place m == mark_place l) ≡ true) ⊎ ((mark_place m == mark_place l) ≡ false) → (mark_place m == mark_place l) ≡ false
        by (inl e) = absurd (apart l m s (number_equal (mark_place m) (mark_place l) e))
        by (inr e) = e

-- a literal and its complement have places, where these have marks
place_below : (x n : ℕ) (s : Bool) → 2 * x + 1 < n → 2 * x + (if s then 1 else 0) < n
place_below x n true lt = lt
place_below x n false lt = omega (arith, lt)

pub own_place : (n : ℕ) (l : Lit) → HasMarks n l → mark_place l < n
own_place n l lt = place_below l.var n l.neg lt

pub other_place : (n : ℕ) (l : Lit) → HasMarks n l → mark_place (complement l) < n
other_place n l lt = place_below l.var n (not l.neg) lt

pub place_of_member : (n : ℕ) (clause : List Lit) (l : Lit) → All (HasMarks n) clause → literals_of clause l ≡ true → HasMarks n l
place_of_member n clause l all own =
    let found = Any-from_list_any (λ m. same_literal m l) clause own in
    subst (HasMarks n) (found.3 ∙ same_literal-is found.1 l found.4) (all found.0 found.1 found.2)

abbrev to_come : Bool → ℕ
to_come b = cond (not b) 1 0

-- one mark more is one less to come
pub unmarked-set : (marks : List Bool) (k : ℕ) → k < length marks → get_or marks k false ≡ false → unmarked (set marks k true) < unmarked marks
unmarked-set marks k within off =
    let sums = sum_by-set to_come marks k true false within in
    let was : to_come (get_or marks k false) ≡ 1 = ap to_come off in
    omega (arith, sums, was)
