use Rattle.bb_equiv.proofs.ShownByEvents.{events_show_counterexamples}
use Rattle.bb_equiv.proofs.counterexamples.events_show_counterexamples.Goals as goal

pub returns : goal.returns
returns c = events_show_counterexamples
