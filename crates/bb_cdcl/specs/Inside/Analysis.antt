-- The analysis of a conflict: resolution along the trail, from its end.
use Rattle.std.specs.Prelude.{ℕ, ◌≡◌, ◌≤◌, ◌||◌, true, Some, None, List, take, map, slice_get}
use Rattle.bb_cnf.specs.declared.clauses.Lit.{Lit}
use Rattle.bb_cnf.specs.declared.partial_resolvent.PartialResolvent.{PartialResolvent}
use Rattle.bb_cnf.specs.Clauses.{Literals, literals_of, same_literal}
use Rattle.bb_cnf.specs.Chains.{chain}
use Rattle.bb_cnf.specs.Inside.PartialResolvent.{held, AreListed}
use Rattle.bb_cdcl.specs.declared.trail.Entry.{Entry}
use Rattle.bb_cdcl.specs.Inside.Trails.{falsified, opposite}

-- the entries make all these literals false
abbrev pub AreFalsified : List Entry → Literals → Type 0
AreFalsified entries c = (m : Lit) → c m ≡ true → falsified entries m ≡ true

-- the same, one literal apart
abbrev pub OthersAreFalsified : List Entry → Lit → Literals → Type 0
OthersAreFalsified entries l c = (m : Lit) → c m ≡ true → (same_literal l m || falsified entries m) ≡ true

-- The negation of the literal at `place` is in the clause, and the entries before `at` make the others false.
pub record IsCovered (entries : List Entry) (c : Literals) (place at : ℕ) : Type 0 where
  pub entry : Entry
  pub at_place : slice_get entries place ≡ Some entry
  pub member : c (opposite entry.lit) ≡ true
  pub before : at ≤ place
  pub others : OthersAreFalsified (take at entries) (opposite entry.lit) c

-- The trail may be taken back to this decision: then the clause implies the negation of the literal at `place`.
pub record IsBackjump (entries : List Entry) (c : Literals) (place back : ℕ) : Type 0 where
  pub covered : IsCovered entries c place back
  pub decision : Entry
  pub at_back : slice_get entries back ≡ Some decision
  pub decided : decision.reason ≡ None

-- The resolvent is the clause that the chain derives from the first clause.
pub record IsResolved (clauses : List (List Lit)) (first : Literals) (pairs : List (ℕ × ℕ)) (resolvent : PartialResolvent) : Type 0 where
  pub made : chain (map literals_of clauses) first pairs ≡ Some (held resolvent)
  pub listed : AreListed resolvent

-- whatever these steps resolve to, the new steps resolve to the new resolvent
abbrev pub StaysResolved : List (List Lit) → List (ℕ × ℕ) → PartialResolvent → List (ℕ × ℕ) → PartialResolvent → Type 0
StaysResolved clauses pairs resolvent more next = (first : Literals) → IsResolved clauses first pairs resolvent
    → IsResolved clauses first more next
