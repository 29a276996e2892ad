use Rattle.bb_verdict.proofs.StatusLaw.{refuted_are_seen}
use Rattle.bb_verdict.proofs.verdict_laws.refuted_are_seen.Goals as goal

pub returns : goal.returns
returns c = refuted_are_seen c.texts_have_designs.ensures.readings c.designs_are_allowed.ensures c.counterexamples_exist.ensures c.events_show_counterexamples.ensures
