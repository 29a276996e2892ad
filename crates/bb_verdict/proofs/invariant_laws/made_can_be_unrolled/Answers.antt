use Rattle.bb_verdict.proofs.UnrolledSpecs.{made_can_be_unrolled}
use Rattle.bb_verdict.proofs.invariant_laws.made_can_be_unrolled.Goals as goal

pub returns : goal.returns
returns c = made_can_be_unrolled c.designs_are_allowed.ensures c.texts_have_designs.ensures.designs c.pairs_implement_exactly_fitting.ensures c.nets_are_taken_as_designs.ensures c.pairs_are_named.ensures
