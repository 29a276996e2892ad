use Rattle.bb_checks.proofs.OpenLaw.{deciders_decide}
use Rattle.bb_checks.proofs.laws.deciders_decide.Goals as goal

pub returns : goal.returns
returns c = deciders_decide
