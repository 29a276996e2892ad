use Rattle.bb_net.specs.Kinds.{per_box}
use Rattle.bb_expand.specs.Inside.Failures.{FailsAt}
use Rattle.bb_expand.proofs.FilledFailures.{found_list}
use Rattle.bb_expand.proofs.counterexamples.failing_vectors.Goals as goal

pub returns-clause-found : goal.returns-clause-found
returns-clause-found c = found_list (FailsAt c.args.pair.now.spec c.args.pair.now.imp (per_box c.args.pair.now.kinds c.args.tables.now)) c.in_ok-found.found c.in_ok-vectors.vectors.items c.in_ok-found.ensures.found c.in_ok-vectors.ensures.some c.in_ok-vectors.ensures.none
