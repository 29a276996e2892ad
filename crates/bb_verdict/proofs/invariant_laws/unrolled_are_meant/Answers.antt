use Rattle.bb_verdict.proofs.UnrolledSpecs.{unrolled_are_meant}
use Rattle.bb_verdict.proofs.invariant_laws.unrolled_are_meant.Goals as goal

pub returns : goal.returns
returns c = unrolled_are_meant c.designs_are_allowed.ensures c.texts_have_designs.ensures.designs c.pairs_implement_exactly_fitting.ensures c.pairs_are_named.ensures c.kept_are_invariants.ensures c.broken_are_broken.ensures
