-- The trail: literals that are assumed true, in the order in which they were assigned. Each is a decision, or is
-- implied by a clause whose other literals were false before.
use Rattle.std.specs.Prelude.{ℕ, ◌≡◌, ◌+◌, Bool, true, false, not, ◌||◌, Option, Some, None, IfSome, option_map, List, length, take, slice_get, slice_index_or}
use Rattle.std.specs.List.{list_any, sum_by}
use mathlib.Core.Bool.{beq}
use Rattle.bb_cnf.specs.declared.clauses.Lit.{Lit}
use Rattle.bb_cnf.specs.Clauses.{Literals, literals_of, same_literal}
use Rattle.bb_cdcl.specs.declared.trail.Entry.{Entry}
use Rattle.bb_cdcl.specs.Laws.Numbers.{moved_number}

abbrev pub opposite : Lit → Lit
opposite l = record { var = l.var; neg = not l.neg }

-- the literals that the entries make false
abbrev pub falsified : List Entry → Literals
falsified entries m = list_any (λ e. same_literal (opposite e.lit) m) entries

-- the variable's bit, where it is assigned
abbrev pub value_at : List (Option Bool) → ℕ → Option Bool
value_at values x = slice_index_or values x None

abbrev pub is_bit : Option Bool → Bool → Bool
is_bit None b = false
is_bit (Some a) b = beq a b

-- a literal is false where its variable's bit is its sign
abbrev pub is_false : List (Option Bool) → Literals
is_false values m = is_bit (value_at values m.var) m.neg

-- 1 where there is no value
abbrev pub unassigned : Option Bool → ℕ
unassigned None = 1
unassigned (Some b) = 0

-- neither the literal nor its negation is among the entries
abbrev pub IsNew : List Entry → Lit → Type 0
IsNew entries l = (falsified entries l ≡ false) × (falsified entries (opposite l) ≡ false)

-- the clause of this number has the literal, and its other literals are false
pub record IsReason (clauses : List (List Lit)) (prefix : List Entry) (l : Lit) (r : ℕ) : Type 0 where
  pub clause : List Lit
  pub occurs : slice_get clauses r ≡ Some clause
  pub own : literals_of clause l ≡ true
  pub others : (m : Lit) → literals_of clause m ≡ true → (same_literal l m || falsified prefix m) ≡ true

-- each variable occurs once
abbrev pub AreNew : List Entry → Type 0
AreNew entries = (i : ℕ) (e : Entry) → slice_get entries i ≡ Some e → IsNew (take i entries) e.lit

-- each implied literal has a reason
abbrev pub HaveReasons : List (List Lit) → List Entry → Type 0
HaveReasons clauses entries = (i : ℕ) (e : Entry) → slice_get entries i ≡ Some e → IfSome e.reason (IsReason clauses (take i entries) e.lit)

-- the values are those of the entries
abbrev pub AreValues : List Entry → List (Option Bool) → Type 0
AreValues entries values = (m : Lit) → is_false values m ≡ falsified entries m

-- the entry when `more` given clauses come after the first `given` ones
abbrev pub moved_entry : ℕ → ℕ → Entry → Entry
moved_entry given more e = record { lit = e.lit; reason = option_map (moved_number given more) e.reason }

-- there are as many values as entries
abbrev pub HasRoom : List Entry → List (Option Bool) → Type 0
HasRoom entries values = length entries + sum_by unassigned values ≡ length values
