-- Sat exactly where there is a model.
use Rattle.std.proofs.Common.{◌↔◌}
use Rattle.bb_cnf.specs.Clauses.{Formula}
use Rattle.bb_cnf.specs.Laws.{SoundnessLaws}
use Rattle.bb_cdcl.specs.declared.outcome.Attempt.{Attempt}
use Rattle.bb_cdcl.specs.declared.outcome.Attempt.TheVariants as attempts
use Rattle.bb_cdcl.specs.declared.outcome.Outcome.{Outcome}
use Rattle.bb_cdcl.specs.declared.outcome.Outcome.TheVariants as answers
use Rattle.bb_cdcl.specs.Inside.Outcomes.{IfSat, IfUnsat, IsSat, IfDecided, HasModel}

pub sat_exactly : SoundnessLaws → (f : Formula) (o : Outcome) → IfSat o f → IfUnsat o f → (IsSat o ↔ HasModel f)
sat_exactly laws f (answers.Sat bits) sat unsat = (λ _. (bits.items, sat), λ _. tt)
sat_exactly laws f (answers.Unsat r) sat unsat = (λ none. absurd none, λ m. laws.refutation f.clauses r.steps.items unsat _ m.1.1)

pub decided_exactly : SoundnessLaws → (f : Formula) (a : Attempt) → IfDecided a (λ o. IfSat o f) → IfDecided a (λ o. IfUnsat o f) → IfDecided a (λ o. IsSat o ↔ HasModel f)
decided_exactly laws f (attempts.Decided o) sat unsat = sat_exactly laws f o sat unsat
decided_exactly laws f (attempts.Spent steps) sat unsat = tt
