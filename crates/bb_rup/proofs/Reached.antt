-- What the marks say, beside a propagation.
use Rattle.std.proofs.Common.{◌≡◌, ◌<◌, ℕ, Bool, true, false, ◌||◌, ◌&&◌, not, ◌==◌, List, [], ◌∷◌, ◌++◌, All, Any, Contains, Some, take, slice_get, set, refl, sym, ◌∙◌, ap, subst, arith, ◌⊎◌, inl, inr, append-nil, append_assoc}
use Rattle.std.proofs.lemmas.Option.{slice_get_within, get_or_from_slice_get}
use mathlib.Core.Bool.{beq}
use Rattle.bb_lemmas.proofs.Places.{some_same}
use Rattle.bb_cnf.specs.declared.clauses.Lit.{Lit}
use Rattle.bb_cnf.specs.Clauses.{Literals, literals_of, same_literal}
use Rattle.bb_rup.specs.Propagation.{complement, false_after, IsFalseClause, IsUnitClause, IsOpen, IsPropagation, Follows}
use Rattle.bb_rup.specs.Inside.Trails.{mark_place, marked_by, unmarked, IsTrail, Makes, IsReached, HasMarks, HaveMarks, Propagates}
use Rattle.bb_rup.specs.Inside.Statuses.{IsImplied}
use Rattle.bb_rup.specs.declared.trail.Trail.{Trail}
use Rattle.bb_rup.proofs.Splits.{any_weaker}
use Rattle.bb_rup.proofs.Falses.{false_push}
use Rattle.bb_rup.proofs.Found.{found_none, found_more, found_by_more, found_for_more}
use Rattle.bb_rup.proofs.Places.{place_of_member, other_place, unmarked-set}

-- where other literals are the false ones, but the same
module _ (f g : Literals) (same : (m : Lit) → g m ≡ f m) where
  pub unit_same : (clause : List Lit) (l : Lit) → IsUnitClause f clause l → IsUnitClause g clause l
  unit_same clause l unit = record {
    own = unit.own;
    free = same l ∙ unit.free;
    others = λ m own. ap (λ b. same_literal l m || b) (same m) ∙ unit.others m own;
  }

  pub false_same : (clause : List Lit) → IsFalseClause f clause → IsFalseClause g clause
  false_same clause all m own = same m ∙ all m own

  pub reached_same : (clauses : List (List Lit)) (c : List Lit) → IsReached clauses c f → IsReached clauses c g
  reached_same clauses c r = record { list = r.list; propagation = r.propagation; same = λ m. same m ∙ r.same m }

-- nothing is false
pub reached_first : (clauses : List (List Lit)) (t : Trail) → IsTrail t → t.lits.items ≡ [] → IsReached clauses [] (marked_by t)
reached_first clauses t is none = record { list = []; propagation = found_none clauses []; same = λ m. is.same m ∙ ap (λ k. literals_of k m) none }

-- more clauses
pub reached_by_more : (clauses more : List (List Lit)) (c : List Lit) (f : Literals) → All (Contains more) clauses → IsReached clauses c f → IsReached more c f
reached_by_more clauses more c f within r = record { list = r.list; propagation = found_by_more clauses more c r.list within r.propagation; same = r.same }

-- a false clause
pub reached_false : (clauses : List (List Lit)) (c : List Lit) (f : Literals) → IsReached clauses c f → Any (IsFalseClause f) clauses → Follows clauses c
reached_false clauses c f r any = record {
  list = r.list;
  propagation = r.propagation;
  ends = any_weaker (IsFalseClause f) (IsFalseClause (false_after c r.list)) clauses (λ k is. false_same f (false_after c r.list) (λ m. sym (r.same m)) k is) any;
}

or_swap : (a b : Bool) → ((false || a) || b) ≡ (b || a)
or_swap true true = refl
or_swap true false = refl
or_swap false true = refl
or_swap false false = refl

-- the literals of C are false too
pub reached_own : (clauses : List (List Lit)) (c : List Lit) (f g : Literals) → IsReached clauses [] f → ((m : Lit) → g m ≡ (f m || literals_of c m))
    → IsReached clauses c g ⊎ Follows clauses c
reached_own clauses c f g r is = by (found_for_more clauses [] c r.list (λ l own. none own) r.propagation)
  where
    none : {A : Type 0} → false ≡ true → A
    none e = absurd (let clash : false ≡ true = e in cc)

    by : IsPropagation clauses c r.list ⊎ Follows clauses c → IsReached clauses c g ⊎ Follows clauses c
    by (inl found) = inl (record {
      list = r.list;
      propagation = found;
      same = λ m. is m ∙ ap (λ b. b || literals_of c m) (r.same m) ∙ or_swap (literals_of r.list (complement m)) (literals_of c m);
    })
    by (inr follows) = inr follows

turn : (a b : Bool) → beq (not a) b ≡ beq a (not b)
turn true true = refl
turn true false = refl
turn false true = refl
turn false false = refl

complement_of : (l m : Lit) → same_literal (complement l) m ≡ same_literal l (complement m)
complement_of l m = ap (λ b. (l.var == m.var) && b) (turn l.neg m.neg)

-- one more is found
pub reached_next : (clauses : List (List Lit)) (c : List Lit) (f g : Literals) (l : Lit) → Any (λ clause. IsUnitClause f clause l) clauses
    → ((m : Lit) → g m ≡ (f m || same_literal (complement l) m)) → IsReached clauses c f → IsReached clauses c g
reached_next clauses c f g l found is r = record {
  list = r.list ++ l ∷ [];
  propagation = found_more clauses c r.list l r.propagation
      (any_weaker (λ k. IsUnitClause f k l) (λ k. IsUnitClause (false_after c r.list) k l) clauses (λ k unit. unit_same f (false_after c r.list) (λ m. sym (r.same m)) k l unit) found);
  same = λ m. is m ∙ ap (λ b. b || same_literal (complement l) m) (r.same m) ∙ ap (λ b. false_after c r.list m || b) (complement_of l m) ∙ sym (false_push c r.list l m);
}

-- nothing happens, one thing after another, or one literal more is false
pub propagates_none : (clauses : List (List Lit)) (t : Trail) → IsTrail t → Propagates clauses t t
propagates_none clauses t is = record {
  trail = is;
  more = [];
  grows = sym (append-nil t.lits.items);
  room = refl;
  left = omega arith;
  reached = λ c r. r;
}

pub propagates_then : (clauses : List (List Lit)) (a b c : Trail) → Propagates clauses a b → Propagates clauses b c → Propagates clauses a c
propagates_then clauses a b c one two = record {
  trail = two.trail;
  more = one.more ++ two.more;
  grows = two.grows ∙ ap (λ k. k ++ two.more) one.grows ∙ append_assoc a.lits.items one.more two.more;
  room = two.room ∙ one.room;
  left = omega (arith, one.left, two.left);
  reached = λ d r. two.reached d (one.reached d r);
}

module _ (clauses : List (List Lit)) (old new : Trail) (l : Lit) (implied : IsImplied clauses old.marks.items l) (makes : Makes old new (same_literal (complement l)))
    (marks : new.marks.items ≡ set old.marks.items (mark_place (complement l)) true) where
  pub implies_less : unmarked new.marks.items < unmarked old.marks.items
  implies_less = subst (λ k. unmarked k < unmarked old.marks.items) (sym marks) (unmarked-set old.marks.items (mark_place (complement l)) implied.in_range implied.new)

  pub propagates_one : Propagates clauses old new
  propagates_one = record {
    trail = makes.trail;
    more = makes.more;
    grows = makes.grows;
    room = makes.room;
    left = omega (arith, implies_less);
    reached = λ c r. reached_next clauses c (marked_by old) (marked_by new) l implied.found makes.marks r;
  }

-- a clause at its place, and what it says
pub any_at : (P : List Lit → Type 0) (clauses : List (List Lit)) (k : ℕ) (clause : List Lit) → slice_get clauses k ≡ Some clause → P clause → Any P clauses
any_at P clauses k clause occurs p = (k, clause, slice_get_within clauses k clause occurs, get_or_from_slice_get clauses k clause clause occurs, p)

-- its literals and their complements have places
pub complement_in_range : (n : ℕ) (clauses : List (List Lit)) (k : ℕ) (clause : List Lit) (l : Lit) → HaveMarks n clauses → slice_get clauses k ≡ Some clause
    → literals_of clause l ≡ true → mark_place (complement l) < n
complement_in_range n clauses k clause l all occurs own =
    let here : All (HasMarks n) clause = subst (All (HasMarks n)) (get_or_from_slice_get clauses k clause clause occurs) (all k clause (slice_get_within clauses k clause occurs)) in
    other_place n l (place_of_member n clause l here own)

-- a unit clause whose literal is true is open
pub open_unit : (clauses : List (List Lit)) (f : Literals) (k : ℕ) (here clause : List Lit) (l : Lit) → slice_get clauses k ≡ Some here → IsUnitClause f here l
    → f (complement l) ≡ true → slice_get clauses k ≡ Some clause → IsOpen f clause
open_unit clauses f k here clause l occurs unit known also =
    subst (IsOpen f) (some_same here clause (sym occurs ∙ also)) (inl (record { literal = l; own = unit.own; free = unit.free; negation = known }))

take_none : {A : Type 0} (xs : List A) → take 0 xs ≡ []
take_none [] = refl
take_none (x ∷ xs) = refl

-- the given clauses alone
pub none_after : (given adds : List (List Lit)) → given ++ take 0 adds ≡ given
none_after given adds = ap (λ k. given ++ k) (take_none adds) ∙ append-nil given
