use Rattle.bb_uniq.proofs.LawLemmas.{sequence_laws}
use Rattle.bb_uniq.proofs.laws.sequences.Goals as goal

pub returns : goal.returns
returns c = sequence_laws (record { tables = c.tables.ensures; beads = c.beads.ensures; sizes = c.sizes.ensures })
