use Rattle.bb_uniq.proofs.LawLemmas.{step_laws}
use Rattle.bb_uniq.proofs.laws.steps.Goals as goal

pub returns : goal.returns
returns c = step_laws (record { tables = c.tables.ensures; beads = c.beads.ensures; sizes = c.sizes.ensures })
