use Rattle.bb_checks.proofs.StayLaw.{errors_stay}
use Rattle.bb_checks.proofs.laws.errors_stay.Goals as goal

pub returns : goal.returns
returns c = errors_stay (record {
  patterns = c.conditions_weaken.ensures.patterns;
  known = c.conditions_weaken.ensures.known;
  one = c.conditions_weaken.ensures.one;
  some = c.conditions_weaken.ensures.some;
  choices = c.conditions_weaken.ensures.choices;
  kinds = c.kind_laws.ensures;
}) c.patterns_are_vectors.ensures
