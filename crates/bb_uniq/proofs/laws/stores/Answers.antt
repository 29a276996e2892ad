use Rattle.bb_uniq.proofs.LawLemmas.{store_laws}
use Rattle.bb_uniq.proofs.laws.stores.Goals as goal

pub returns : goal.returns
returns c = store_laws (record { tables = c.tables.ensures; beads = c.beads.ensures; sizes = c.sizes.ensures })
