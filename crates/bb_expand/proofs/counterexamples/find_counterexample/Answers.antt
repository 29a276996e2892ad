use Rattle.bb_miter.specs.Inside.Equivalence.{DiffersAt}
use Rattle.bb_expand.proofs.FilledFailures.{found_list}
use Rattle.bb_expand.proofs.counterexamples.find_counterexample.Goals as goal

pub returns-clause-found : goal.returns-clause-found
returns-clause-found c = found_list (DiffersAt c.args.spec.now c.args.filled.now) c.in_ok-found.found c.in_ok-vectors.vectors.items c.in_ok-found.ensures.found c.in_ok-vectors.ensures.some c.in_ok-vectors.ensures.none
