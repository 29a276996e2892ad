-- The resolvent that a step has come to: a mark for each literal, by its variable and its sign, and a list of
-- the literals that were marked in the step.
use Rattle.std.specs.Prelude.{◌≡◌, true, if◌then◌else◌, List, map}
use Rattle.smallvec.specs.SmallVec.{SmallVec}
use Rattle.bb_cnf.specs.declared.clauses.Lit.{Lit}
use Rattle.bb_cnf.specs.declared.partial_resolvent.PartialResolvent.{PartialResolvent}
use Rattle.bb_cnf.specs.Clauses.{Literals, literals_of}
use Rattle.bb_cnf.specs.Inside.Marks.{mark_at}

-- the marked literals
abbrev pub held : PartialResolvent → Literals
held so_far l = if l.neg then mark_at so_far.negated.items l.var else mark_at so_far.positive.items l.var

-- each marked literal is on the list
abbrev pub AreListed : PartialResolvent → Type 0
AreListed so_far = (l : Lit) → held so_far l ≡ true → literals_of so_far.marked.items l ≡ true

-- the sets of the literals of stored clauses
abbrev pub sets_of : List (SmallVec Lit) → List Literals
sets_of clauses = map (λ clause. literals_of clause.items) clauses
