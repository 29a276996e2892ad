use Rattle.bb_verdict.proofs.StatusLaw.{refuted_have_counterexamples}
use Rattle.bb_verdict.proofs.verdict_laws.refuted_have_counterexamples.Goals as goal

pub returns : goal.returns
returns c = refuted_have_counterexamples c.counterexamples_exist.ensures
