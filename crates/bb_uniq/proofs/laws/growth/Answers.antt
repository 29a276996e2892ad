use Rattle.bb_uniq.proofs.LawLemmas.{growth_laws}
use Rattle.bb_uniq.proofs.laws.growth.Goals as goal

pub returns : goal.returns
returns c = growth_laws (record { tables = c.tables.ensures; beads = c.beads.ensures; sizes = c.sizes.ensures })
