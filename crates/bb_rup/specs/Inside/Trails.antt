-- The trail: the literals that are false, in the order in which they became so, and a mark for each.
use Rattle.std.specs.Prelude.{ℕ, ◌≡◌, ◌+◌, ◌*◌, ◌<◌, ◌≤◌, ◌||◌, Bool, false, not, if◌then◌else◌, List, ◌∷◌, ◌++◌, length, slice_index_or, count_by, All}
use Rattle.bb_cnf.specs.declared.clauses.Lit.{Lit}
use Rattle.bb_cnf.specs.Clauses.{Literals, literals_of}
use Rattle.bb_rup.specs.Propagation.{false_after, IsPropagation}
use Rattle.bb_rup.specs.declared.trail.Trail.{Trail}

-- a literal's place among the marks: twice its variable, and one more where it is negated
abbrev pub mark_place : Lit → ℕ
mark_place l = 2 * l.var + (if l.neg then 1 else 0)

-- the marked literals
abbrev pub marked : List Bool → Literals
marked marks l = slice_index_or marks (mark_place l) false

abbrev pub marked_by : Trail → Literals
marked_by t = marked t.marks.items

-- no literal is on it twice
abbrev pub AreOnce : List Lit → Type 0
AreOnce lits = (prefix : List Lit) (l : Lit) (back : List Lit) → lits ≡ prefix ++ l ∷ back → literals_of prefix l ≡ false

-- the literals of the list are marked, and no others
pub record IsTrail (t : Trail) : Type 0 where
  pub same : (m : Lit) → marked_by t m ≡ literals_of t.lits.items m
  pub once : AreOnce t.lits.items

-- the literals of a set are false too
pub record Makes (old new : Trail) (set : Literals) : Type 0 where
  pub trail : IsTrail new
  pub more : List Lit
  pub grows : new.lits.items ≡ old.lits.items ++ more
  pub room : length new.marks.items ≡ length old.marks.items
  pub marks : (m : Lit) → marked_by new m ≡ (marked_by old m || set m)

-- there is a mark for the literal and for its complement
abbrev pub HasMarks : ℕ → Lit → Type 0
HasMarks n l = 2 * l.var + 1 < n

abbrev pub HaveMarks : ℕ → List (List Lit) → Type 0
HaveMarks n clauses = All (All (HasMarks n)) clauses

-- these literals are false after some propagation
pub record IsReached (clauses : List (List Lit)) (c : List Lit) (falses : Literals) : Type 0 where
  pub list : List Lit
  pub propagation : IsPropagation clauses c list
  pub same : (l : Lit) → falses l ≡ false_after c list l

-- how many literals are not false
abbrev pub unmarked : List Bool → ℕ
unmarked marks = count_by not marks

-- More literals are false, each by propagation.
pub record Propagates (clauses : List (List Lit)) (old new : Trail) : Type 0 where
  pub trail : IsTrail new
  pub more : List Lit
  pub grows : new.lits.items ≡ old.lits.items ++ more
  pub room : length new.marks.items ≡ length old.marks.items
  pub left : unmarked new.marks.items ≤ unmarked old.marks.items
  pub reached : (c : List Lit) → IsReached clauses c (marked_by old) → IsReached clauses c (marked_by new)
