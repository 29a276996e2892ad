-- What a solver may answer: a model, a refutation by resolution, or nothing once enough clauses were learned.
use Rattle.std.specs.Prelude.{ℕ, Bool, IsSome, List, map}
use Rattle.bb_cnf.specs.declared.clauses.Lit.{Lit}
use Rattle.bb_cnf.specs.declared.refutation.Step.{Step}
use Rattle.bb_cdcl.specs.declared.outcome.Attempt.{Attempt}
use Rattle.bb_cdcl.specs.declared.outcome.Attempt.TheVariants as attempts
use Rattle.bb_cdcl.specs.declared.outcome.Outcome.{Outcome}
use Rattle.bb_cdcl.specs.declared.outcome.Outcome.TheVariants as answers
use Rattle.bb_cnf.specs.Clauses.{Formula, literals_of}
use Rattle.bb_cnf.specs.Chains.{derived, IsRefutation}
use Rattle.bb_cnf.specs.Truth.{IsModel}

-- the list of bits of Sat is a model
abbrev pub IfSat : Outcome → Formula → Type 0
IfSat (answers.Sat bits) formula = IsModel bits.items formula
IfSat (answers.Unsat refutation) formula = Unit {0}

-- the steps of Unsat are a refutation, so the checker accepts them
abbrev pub IfUnsat : Outcome → Formula → Type 0
IfUnsat (answers.Sat bits) formula = Unit {0}
IfUnsat (answers.Unsat refutation) formula = IsRefutation formula.clauses refutation.steps.items

abbrev pub IsSat : Outcome → Type 0
IsSat (answers.Sat bits) = Unit {0}
IsSat (answers.Unsat refutation) = ⊥

-- some list of bits is a model
abbrev pub HasModel : Formula → Type 0
HasModel formula = (bits : List Bool) × IsModel bits formula

abbrev pub formula : ℕ → List (List Lit) → Formula
formula vars clauses = record { vars = vars; clauses = clauses }

-- the outcome of an attempt that was decided meets the condition
abbrev pub IfDecided : Attempt → (Outcome → Type 0) → Type 0
IfDecided (attempts.Decided outcome) P = P outcome
IfDecided (attempts.Spent steps) P = Unit {0}

-- the steps of an attempt that was given up meet the condition
abbrev pub IfSpent : Attempt → (List Step → Type 0) → Type 0
IfSpent (attempts.Decided outcome) P = Unit {0}
IfSpent (attempts.Spent steps) P = P steps.items

-- each step makes a clause from the given ones and from those that the steps before it make
abbrev pub Derive : List (List Lit) → List Step → Type 0
Derive clauses steps = IsSome (derived (map literals_of clauses) steps)
