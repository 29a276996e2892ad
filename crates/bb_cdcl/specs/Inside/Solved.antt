-- What an incremental solver may answer.
use Rattle.std.specs.Prelude.{◌≡◌}
use Rattle.bb_cnf.specs.Clauses.{Formula}
use Rattle.bb_cnf.specs.Chains.{IsRefutation}
use Rattle.bb_cnf.specs.Truth.{IsModel}
use Rattle.bb_cdcl.specs.declared.incremental.Solved.{Solved}
use Rattle.bb_cdcl.specs.declared.incremental.Solved.TheVariants as answers

-- the list of bits of Sat is a model, and the solver has the same clauses still
abbrev pub IfSolved : Solved → Formula → Type 0
IfSolved (answers.Sat bits solver) formula = IsModel bits.items formula × (solver ≡ formula)
IfSolved (answers.Unsat cnf refutation) formula = Unit {0}

-- the clauses of Unsat are the same, and its steps are a refutation of them
abbrev pub IfRefuted : Solved → Formula → Type 0
IfRefuted (answers.Sat bits solver) formula = Unit {0}
IfRefuted (answers.Unsat cnf refutation) formula = IsRefutation formula.clauses refutation.steps.items × (cnf ≡ formula)

abbrev pub IsSolved : Solved → Type 0
IsSolved (answers.Sat bits solver) = Unit {0}
IsSolved (answers.Unsat cnf refutation) = ⊥
