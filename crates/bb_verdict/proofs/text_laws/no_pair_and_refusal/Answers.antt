use Rattle.bb_verdict.proofs.TextPairLaws.{no_pair_and_refusal}
use Rattle.bb_verdict.proofs.text_laws.no_pair_and_refusal.Goals as goal

pub returns : goal.returns
returns c = no_pair_and_refusal c.designs_are_allowed.ensures c.texts_have_designs.ensures.designs c.texts_have_designs.ensures.not_both c.pairs_implement_exactly_fitting.ensures c.not_fit_and_refused.ensures
