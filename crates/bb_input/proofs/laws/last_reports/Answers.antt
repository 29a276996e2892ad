use Rattle.bb_input.proofs.Stages.{last_reports}
use Rattle.bb_input.proofs.laws.last_reports.Goals as goal

pub returns : goal.returns
returns c = λ spec imp. last_reports c.quantifiers.ensures c.tables.ensures c.functions.ensures spec imp
