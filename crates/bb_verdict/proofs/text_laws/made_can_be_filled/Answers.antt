use Rattle.bb_verdict.proofs.MadeNets.{made_can_be_filled}
use Rattle.bb_verdict.proofs.text_laws.made_can_be_filled.Goals as goal

pub returns : goal.returns
returns c = made_can_be_filled c.tables_are_spread.ensures.fit
