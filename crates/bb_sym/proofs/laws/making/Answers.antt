use Rattle.bb_sym.proofs.AllLaws.{making_laws}
use Rattle.bb_sym.proofs.laws.making.Goals as goal

pub returns : goal.returns
returns c = making_laws c.sequences.ensures c.sizes.ensures
