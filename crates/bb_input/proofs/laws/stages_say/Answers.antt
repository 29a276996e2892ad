use Rattle.bb_input.proofs.Stages.{stages_say}
use Rattle.bb_input.proofs.laws.stages_say.Goals as goal

pub returns : goal.returns
returns c = λ spec imp. stages_say c.quantifiers.ensures c.tables.ensures c.functions.ensures spec imp
