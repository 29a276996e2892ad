-- Invariants of the solver.
use Rattle.std.specs.Prelude.{ℕ, ◌≡◌, ◌<◌, Bool, false, true, Some, IfSome, IfNone, Option, List, ◌++◌, ◌-◌, map, length, slice_get, All}
use Rattle.bb_cnf.specs.declared.clauses.Lit.{Lit}
use Rattle.bb_cnf.specs.declared.refutation.Step.{Step}
use Rattle.bb_cnf.specs.Clauses.{literals_of, lists_of}
use Rattle.bb_cnf.specs.Chains.{made_by, IsEmpty, EndsEmpty}
use Rattle.bb_cnf.specs.Inside.PartialResolvent.{held, AreListed}
use Rattle.bb_cdcl.specs.declared.analysis.Backjump.{Backjump}
use Rattle.bb_cdcl.specs.declared.state.State.{State}
use Rattle.bb_cdcl.specs.declared.state.Iteration.{Iteration}
use Rattle.bb_cdcl.specs.declared.state.Iteration.TheVariants as iterations
use Rattle.bb_cdcl.specs.Inside.Dates.{AreDerived}
use Rattle.bb_cdcl.specs.Inside.Trails.{AreNew, HaveReasons, AreValues, HasRoom}
use Rattle.bb_cdcl.specs.Inside.Analysis.{IsBackjump}
use Rattle.bb_cdcl.specs.Inside.Events.{IsSatisfied}
use Rattle.bb_cdcl.specs.Inside.Measure.{left}

-- all clauses by their numbers: the learned ones come after the given ones
abbrev pub all_clauses : List (List Lit) → State → List (List Lit)
all_clauses given s = given ++ lists_of s.learned.items

-- The steps derive what was learned, and each implied literal has a reason among all clauses.
pub record IsDerived (given : List (List Lit)) (s : State) : Type 0 where
  pub derives : AreDerived given s.steps.items (all_clauses given s)
  pub reasons : HaveReasons (all_clauses given s) s.trail.entries.items

-- The steps refute the given clauses: the last clause that they derive is empty.
pub record Refutes (given : List (List Lit)) (s : State) : Type 0 where
  pub derived : IsDerived given s
  pub some : 0 < length s.steps.items
  pub empty : EndsEmpty (map literals_of (all_clauses given s))

-- The trail is in order, and between two analyses the resolvent is empty.
pub record IsReady (s : State) : Type 0 where
  pub new : AreNew s.trail.entries.items
  pub values : AreValues s.trail.entries.items s.trail.values.items
  pub room : HasRoom s.trail.entries.items s.trail.values.items
  pub empty : (l : Lit) → held s.resolvent l ≡ false
  pub listed : AreListed s.resolvent

-- More clauses were derived. The trail and the resolvent are as before.
pub record Grows (given : List (List Lit)) (old new : State) : Type 0 where
  pub derived : IsDerived given new
  pub more : List (List Lit)
  pub clauses : all_clauses given new ≡ all_clauses given old ++ more
  pub trail : new.trail ≡ old.trail
  pub resolvent : new.resolvent ≡ old.resolvent

-- A step makes what the resolvent holds, and by this the trail may be taken back; or it is the empty clause. The trail
-- is as before.
pub record Leads (given : List (List Lit)) (old new : State) (backjump : Option Backjump) (step : Step) : Type 0 where
  pub derived : IsDerived given new
  pub trail : new.trail ≡ old.trail
  pub made : made_by (map literals_of (all_clauses given new)) step ≡ Some (held new.resolvent)
  pub listed : AreListed new.resolvent
  pub some : IfSome backjump (λ j. IsBackjump old.trail.entries.items (held new.resolvent) j.place j.back)
  pub none : IfNone backjump (IsEmpty (held new.resolvent))

-- The last clause was learned, and by it the trail may be taken back; or it is the empty clause. The trail is as
-- before.
pub record Learns (given : List (List Lit)) (old new : State) (backjump : Option Backjump) : Type 0 where
  pub derived : IsDerived given new
  pub trail : new.trail ≡ old.trail
  pub clause : List Lit
  pub last : slice_get (all_clauses given new) (length (all_clauses given new) - 1) ≡ Some clause
  pub some : IfSome backjump (λ j. IsBackjump old.trail.entries.items (literals_of clause) j.place j.back)
  pub none : IfNone backjump (Refutes given new)
  pub empty : (l : Lit) → held new.resolvent l ≡ false
  pub listed : AreListed new.resolvent

-- what is left of the search
abbrev pub left_of : State → ℕ
left_of s = left (length s.trail.values.items) s.trail.entries.items

-- The trail is another, and less is left.
pub record Advances (old new : State) : Type 0 where
  pub ready : IsReady new
  pub less : left_of new < left_of old
  pub same : length new.trail.values.items ≡ length old.trail.values.items

-- The search may go on.
pub record Pauses (given : List (List Lit)) (old new : State) : Type 0 where
  pub derived : IsDerived given new
  pub ready : IsReady new
  pub same : length new.trail.values.items ≡ length old.trail.values.items

-- All clauses are true, and the search may go on where more come.
pub record Rests (given : List (List Lit)) (old new : State) : Type 0 where
  pub satisfied : All (IsSatisfied new.trail.values.items) given
  pub pauses : Pauses given old new

abbrev pub Iterates : List (List Lit) → State → State → Iteration → Type 0
Iterates given old new iterations.Going = IsDerived given new × Advances old new
Iterates given old new iterations.Satisfied = Rests given old new
Iterates given old new iterations.Refuted = Refutes given new

-- At the end all clauses are true, or the steps refute them.
abbrev pub Ends : List (List Lit) → State → State → Bool → Type 0
Ends given old new true = Rests given old new
Ends given old new false = Refutes given new
