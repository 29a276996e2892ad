use Rattle.bb_match.proofs.Decisions.{fit_or_refused}
use Rattle.bb_match.proofs.laws.fit_or_refused.Goals as goal

pub returns : goal.returns
returns c = fit_or_refused
