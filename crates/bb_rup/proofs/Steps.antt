-- One addition, and what comes of all.
use Rattle.std.proofs.Common.{◌≡◌, ◌≤◌, ◌<◌, ◌+◌, ◌*◌, ◌↔◌, ℕ, suc, true, List, [], ◌∷◌, ◌++◌, All, Any, Some, length, take, drop, slice_get, refl, sym, ◌∙◌, ap, subst, arith, ◌⊎◌, inl, inr, append-nil, append_assoc, length-append}
use Rattle.std.proofs.lemmas.List.{take_at, take-append-drop, length-take-le}
use Rattle.std.proofs.lemmas.List.Elements.{All-weaker, All-append, All-take}
use Rattle.std.proofs.lemmas.List.Folds.{list_any-append}
use Rattle.std.proofs.lemmas.Option.{slice_get_within, get_or_from_slice_get}
use Rattle.bb_lemmas.proofs.Bits.{or_right, or_left}
use Rattle.bb_lemmas.proofs.Places.{split, take_at as taken_to}
use Rattle.bb_cnf.specs.declared.clauses.Lit.{Lit}
use Rattle.bb_cnf.specs.Clauses.{Literals, literals_of, same_literal, HasVariablesWithin}
use Rattle.bb_cnf.specs.Truth.{HaveNoModel}
use Rattle.bb_rup.specs.Propagation.{IsFalseClause, IsOpen, Follows, Stays}
use Rattle.bb_rup.specs.Additions.{with_empty, Succeed, EachFollows, IsFirstWithout, IsRupAnswer}
use Rattle.bb_rup.specs.Inside.Trails.{marked_by, IsTrail, Makes, IsReached, HasMarks, HaveMarks, Propagates}
use Rattle.bb_rup.specs.Inside.Steps.{FollowsThere, StaysThere}
use Rattle.bb_rup.specs.declared.trail.Trail.{Trail}
use Rattle.bb_rup.specs.declared.refutation.RupAnswer.{RupAnswer}
use Rattle.bb_rup.specs.declared.refutation.RupAnswer.TheVariants as answers
use Rattle.bb_rup.proofs.Reached.{reached_own, reached_false, reached_by_more}
use Rattle.bb_rup.proofs.Successes.{each_none, each_push, each_from, each_succeeds, all_prefix, no_model, yes_or_no, one_number}

-- the trail a, then b with the literals of the clause, then d after propagation
module _ (clauses : List (List Lit)) (c : List Lit) (a b d : Trail) (makes : Makes a b (literals_of c)) (goes : Propagates clauses b d) where
  pub follows_then : IsReached clauses [] (marked_by a) → Any (IsFalseClause (marked_by d)) clauses → Follows clauses c
  follows_then r any = by (reached_own clauses c (marked_by a) (marked_by b) r makes.marks)
    where
      by : IsReached clauses c (marked_by b) ⊎ Follows clauses c → Follows clauses c
      by (inl here) = reached_false clauses c (marked_by d) (goes.reached c here) any
      by (inr follows) = follows

  still_false : (l : Lit) → marked_by b l ≡ true → marked_by d l ≡ true
  still_false l is =
      goes.trail.same l ∙ ap (λ k. literals_of k l) goes.grows ∙ list_any-append (λ m. same_literal m l) b.lits.items goes.more
      ∙ or_left (literals_of b.lits.items l) (literals_of goes.more l) (sym (makes.trail.same l) ∙ is)

  pub stays_then : All (IsOpen (marked_by d)) clauses → Stays clauses c
  stays_then all = record {
    falses = marked_by d;
    own = λ l own. still_false l (makes.marks l ∙ or_right (marked_by a l) (literals_of c l) own);
    each = all;
  }

  whole : d.lits.items ≡ a.lits.items ++ (makes.more ++ goes.more)
  whole = goes.grows ∙ ap (λ k. k ++ goes.more) makes.grows ∙ append_assoc a.lits.items makes.more goes.more

  pub prefix_within : length a.lits.items ≤ length d.lits.items
  prefix_within = let long = length-append a.lits.items (makes.more ++ goes.more) in omega (arith, long, ap length whole)

  pub prefix_is : take (length a.lits.items) d.lits.items ≡ a.lits.items
  prefix_is = ap (take (length a.lits.items)) whole ∙ take_at a.lits.items (makes.more ++ goes.more) (length a.lits.items) refl

-- a trail with the same literals has the same marks
pub same_marks : (a b : Trail) → IsTrail a → IsTrail b → b.lits.items ≡ a.lits.items → (m : Lit) → marked_by b m ≡ marked_by a m
same_marks a b first second e m = second.same m ∙ ap (λ k. literals_of k m) e ∙ sym (first.same m)

-- one addition more
module _ (given adds : List (List Lit)) (k : ℕ) where
  take_more : (c : List Lit) → slice_get adds k ≡ Some c → take (k + 1) adds ≡ take k adds ++ c ∷ []
  take_more c occurs = taken_to adds k c occurs

  pub reached_after : (c : List Lit) (falses : Literals) → slice_get adds k ≡ Some c → IsReached (given ++ take k adds) [] falses → IsReached (given ++ take (k + 1) adds) [] falses
  reached_after c falses occurs r =
      subst (λ cs. IsReached cs [] falses) (append_assoc given (take k adds) (c ∷ []) ∙ ap (λ f. given ++ f) (sym (take_more c occurs)))
      (reached_by_more (given ++ take k adds) ((given ++ take k adds) ++ c ∷ []) [] falses (all_prefix (given ++ take k adds) (c ∷ [])) r)

  pub each_next : EachFollows given (take k adds) → FollowsThere given adds k → EachFollows given (take (k + 1) adds)
  each_next each there = subst (EachFollows given) (sym (take_more there.clause there.occurs)) (each_push given (take k adds) there.clause each there.follows)

  pub ends_yes : EachFollows given (take k adds) → FollowsThere given adds k → Follows (given ++ take (k + 1) adds) [] → Succeed given adds
  ends_yes each there now =
      let e : with_empty adds ≡ take (k + 1) adds ++ (drop (k + 1) adds ++ [] ∷ []) =
      ap (λ f. f ++ [] ∷ []) (sym (take-append-drop (k + 1) adds)) ∙ append_assoc (take (k + 1) adds) (drop (k + 1) adds) ([] ∷ []) in
      each_succeeds given adds (each_from given (with_empty adds) (take (k + 1) adds) (drop (k + 1) adds ++ [] ∷ []) e (each_next each there) now)

  pub stays_no : EachFollows given (take k adds) → StaysThere given adds k → IsFirstWithout given adds (k + 1)
  stays_no each there = record {
    prefix = take k adds;
    clause = there.clause;
    back = drop (suc k) adds ++ [] ∷ [];
    split = ap (λ f. f ++ [] ∷ []) (split adds k there.clause there.occurs) ∙ append_assoc (take k adds) (there.clause ∷ drop (suc k) adds) ([] ∷ []);
    number = ap (λ n. n + 1) (sym (length-take-le k adds (before (slice_get_within adds k there.clause there.occurs))));
    before = each;
    stays = there.stays;
  }
    where
      before : k < length adds → k ≤ length adds
      before lt = omega (arith, lt)

-- at the end
module _ (given adds : List (List Lit)) where
  pub first_yes : Follows given [] → Succeed given adds
  first_yes now = each_succeeds given adds (each_from given (with_empty adds) [] (with_empty adds) refl (each_none given) (subst (λ k. Follows k []) (sym (append-nil given)) now))

  pub last_yes : EachFollows given adds → Follows (given ++ adds) [] → Succeed given adds
  last_yes each now = each_succeeds given adds (each_push given adds [] each now)

  pub last_no : EachFollows given adds → Stays (given ++ adds) [] → IsFirstWithout given adds (length adds + 1)
  last_no each stays = record { prefix = adds; clause = []; back = []; split = refl; number = refl; before = each; stays = stays }

-- the one answer, exactly
pub yes_exactly : (given adds : List (List Lit)) (a : RupAnswer) → IsRupAnswer given adds a → (a ≡ answers.Yes) ↔ Succeed given adds
yes_exactly given adds answers.Yes is = (λ _. is, λ _. refl)
yes_exactly given adds (answers.No n) is = (λ e. absurd (let clash : answers.No n ≡ answers.Yes = e in cc), λ s. absurd (yes_or_no given adds n s is))

pub no_exactly : (given adds : List (List Lit)) (a : RupAnswer) → IsRupAnswer given adds a → (n : ℕ) → (a ≡ answers.No n) ↔ IsFirstWithout given adds n
no_exactly given adds answers.Yes is n = (λ e. absurd (let clash : answers.Yes ≡ answers.No n = e in cc), λ w. absurd (yes_or_no given adds n is w))
no_exactly given adds (answers.No m) is n =
    (λ e. subst (IsFirstWithout given adds) (let same : answers.No m ≡ answers.No n = e in cc) is, λ w. ap answers.No (one_number given adds m n is w))

pub yes_no_model : (given adds : List (List Lit)) (a : RupAnswer) → IsRupAnswer given adds a → a ≡ answers.Yes → HaveNoModel given
yes_no_model given adds a is e = no_model given adds ((yes_exactly given adds a is).0 e)

-- there are marks for all literals
pub have_marks : (n vars : ℕ) (clauses : List (List Lit)) → n ≡ 2 * vars + 2 → HasVariablesWithin vars clauses → HaveMarks n clauses
have_marks n vars clauses is within =
    All-weaker (All (λ l. (1 ≤ l.var) × (l.var ≤ vars))) (All (HasMarks n))
    (λ c inside. All-weaker (λ l. (1 ≤ l.var) × (l.var ≤ vars)) (HasMarks n) (λ l p. omega (arith, p.1, is)) c inside) clauses within

pub marks_before : (n k : ℕ) (given adds : List (List Lit)) → HaveMarks n given → HaveMarks n adds → HaveMarks n (given ++ take k adds)
marks_before n k given adds first second = All-append (All (HasMarks n)) given (take k adds) first (All-take (All (HasMarks n)) k adds second)

pub marks_at : (n k : ℕ) (clauses : List (List Lit)) (c : List Lit) → HaveMarks n clauses → slice_get clauses k ≡ Some c → All (HasMarks n) c
marks_at n k clauses c all occurs = subst (All (HasMarks n)) (get_or_from_slice_get clauses k c c occurs) (all k c (slice_get_within clauses k c occurs))
