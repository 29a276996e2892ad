-- Nothing both follows and stays, and what follows is true wherever the clauses are.
use Rattle.std.proofs.Common.{◌≡◌, ℕ, Bool, true, false, not, if◌then◌else◌, List, [], ◌∷◌, Contains, refl, sym, ◌∙◌, ap, subst, ◌⊎◌, inl, inr}
use Rattle.std.specs.List.{list_any}
use Rattle.std.proofs.lemmas.List.Folds.{Any-from_list_any, list_any_at}
use Rattle.bb_lemmas.proofs.Bits.{or_cases, neither as or_both_false}
use Rattle.bb_lemmas.proofs.Members.{either}
use Rattle.bb_cnf.specs.declared.clauses.Lit.{Lit}
use Rattle.bb_cnf.specs.Clauses.{Literals, literals_of, same_literal}
use Rattle.bb_cnf.specs.Truth.{literal_bit, IsTrueClause, Satisfies}
use Rattle.bb_rup.specs.Propagation.{complement, false_after, IsFalseClause, IsUnitClause, IsOpen, Follows, Stays}
use Rattle.bb_rup.specs.Laws.{PropagationLaws}
use Rattle.bb_rup.proofs.Literals.{clash, same_literal-is, same_literal-itself, in_cons}
use Rattle.bb_rup.proofs.Splits.{pick}
use Rattle.bb_rup.proofs.Found.{IsFound, each_false, found_for_more, more_clauses, more_literals}
use Rattle.bb_rup.proofs.Reaching.{follows_or_stays}

-- a clause that is open is not false
open_not_false : (f : Literals) (clause : List Lit) → IsFalseClause f clause → IsOpen f clause → ⊥
open_not_false f clause all (inl t) = clash (f t.literal) (all t.literal t.own) t.free
open_not_false f clause all (inr t) = clash (f t.first) (all t.first t.first_own) t.first_free

-- an open clause whose other literals are false finds nothing new
module _ (f g : Literals) (clause : List Lit) (l : Lit) (within : (m : Lit) → g m ≡ true → f m ≡ true) (unit : IsUnitClause g clause l) where
  only_one : (m : Lit) → literals_of clause m ≡ true → f m ≡ false → l ≡ m
  only_one m own free = by (or_cases (same_literal l m) (g m) (unit.others m own))
    where
      by : (same_literal l m ≡ true) ⊎ (g m ≡ true) → l ≡ m
      by (inl same) = same_literal-is l m same
      by (inr off) = clash (f m) (within m off) free

  nothing_new : IsOpen f clause → f (complement l) ≡ true
  nothing_new (inl t) = subst (λ k. f (complement k) ≡ true) (sym (only_one t.literal t.own t.free)) t.negation
  nothing_new (inr t) = absurd (t.differ (sym (only_one t.first t.first_own t.first_free) ∙ only_one t.second t.second_own t.second_free))

pub not_both : (clauses : List (List Lit)) (c : List Lit) → Follows clauses c → Stays clauses c → ⊥
not_both clauses c f s = open_not_false s.falses f.ends.1 (λ l own. all l (f.ends.4 l own)) (pick (IsFalseClause (false_after c f.list)) (IsOpen s.falses) clauses f.ends s.each)
  where
    step : (prefix : List Lit) (l : Lit) → ((m : Lit) → false_after c prefix m ≡ true → s.falses m ≡ true) → IsFound clauses c prefix l → s.falses (complement l) ≡ true
    step prefix l known found =
        nothing_new s.falses (false_after c prefix) found.1 l known found.4 (pick (λ clause. IsUnitClause (false_after c prefix) clause l) (IsOpen s.falses) clauses found s.each)

    all : (l : Lit) → false_after c f.list l ≡ true → s.falses l ≡ true
    all = each_false (λ l. s.falses l ≡ true) clauses c f.list f.propagation step s.own

flip : (n b : Bool) → (if n then not b else b) ≡ true → (if not n then not b else b) ≡ false
flip true true h = clash false h refl
flip true false h = refl
flip false true h = refl
flip false false h = clash false h refl

-- the complement of a true literal is false
complement_false : (v : ℕ → Bool) (l : Lit) → literal_bit v l ≡ true → literal_bit v (complement l) ≡ false
complement_false v l h = flip l.neg (v l.var) h

member : (xs : List Lit) (l : Lit) → Contains xs l → literals_of xs l ≡ true
member xs l has = list_any_at (λ m. same_literal m l) xs has.0 l has.1 (ap (λ m. same_literal m l) has.2 ∙ same_literal-itself l)

-- a clause that is not true has no true literal
none_true : (v : ℕ → Bool) (c : List Lit) → list_any (literal_bit v) c ≡ false → (m : Lit) → literals_of c m ≡ true → literal_bit v m ≡ false
none_true v [] off m own = clash false own refl
none_true v (x ∷ xs) off m own = by (or_both_false (literal_bit v x) (list_any (literal_bit v) xs) off) (none_true v xs) (in_cons x xs m own)
  where
    by : (literal_bit v x ≡ false) × (list_any (literal_bit v) xs ≡ false) → (list_any (literal_bit v) xs ≡ false → (k : Lit) → literals_of xs k ≡ true → literal_bit v k ≡ false)
        → (x ≡ m) ⊎ (literals_of xs m ≡ true) → literal_bit v m ≡ false
    by parts rest (inl is) = subst (λ k. literal_bit v k ≡ false) is parts.0
    by parts rest (inr there) = rest parts.1 m there

-- where the literals of C are not true, neither is any that is false by propagation
module _ (v : ℕ → Bool) (clauses : List (List Lit)) (c : List Lit) (solves : Satisfies v clauses) where
  true_step : (prefix : List Lit) (l : Lit) → ((m : Lit) → false_after c prefix m ≡ true → literal_bit v m ≡ false) → IsFound clauses c prefix l → literal_bit v (complement l) ≡ false
  true_step prefix l known found = by (or_cases (same_literal l t.1) (false_after c prefix t.1) (found.4.others t.1 (member found.1 t.1 (t.0, t.2, t.3))))
    where
      t : IsTrueClause v found.1
      t = pick (λ clause. IsUnitClause (false_after c prefix) clause l) (IsTrueClause v) clauses found solves

      by : (same_literal l t.1 ≡ true) ⊎ (false_after c prefix t.1 ≡ true) → literal_bit v (complement l) ≡ false
      by (inl same) = complement_false v l (ap (literal_bit v) (same_literal-is l t.1 same) ∙ t.4)
      by (inr off) = clash (literal_bit v t.1) t.4 (known t.1 off)

  untrue : (f : Follows clauses c) → list_any (literal_bit v) c ≡ false → ⊥
  untrue f off = clash (literal_bit v t.1) t.4 (all t.1 (f.ends.4 t.1 (member f.ends.1 t.1 (t.0, t.2, t.3))))
    where
      t : IsTrueClause v f.ends.1
      t = pick (IsFalseClause (false_after c f.list)) (IsTrueClause v) clauses f.ends solves

      all : (m : Lit) → false_after c f.list m ≡ true → literal_bit v m ≡ false
      all = each_false (λ m. literal_bit v m ≡ false) clauses c f.list f.propagation true_step (none_true v c off)

  pub is_true : Follows clauses c → IsTrueClause v c
  is_true f = by (either (list_any (literal_bit v) c))
    where
      by : (list_any (literal_bit v) c ≡ true) ⊎ (list_any (literal_bit v) c ≡ false) → IsTrueClause v c
      by (inl on) = Any-from_list_any (literal_bit v) c on
      by (inr off) = absurd (untrue f off)

pub propagation_laws : PropagationLaws
propagation_laws = record {
  either = follows_or_stays;
  not_both = not_both;
  more_clauses = more_clauses;
  more_literals = more_literals;
  found_for_more = found_for_more;
  is_true = is_true;
}
