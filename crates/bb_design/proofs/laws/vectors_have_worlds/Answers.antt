use Rattle.bb_design.proofs.WorldExists.{vectors_have_worlds}
use Rattle.bb_design.proofs.laws.vectors_have_worlds.Goals as goal

pub returns : goal.returns
returns c = vectors_have_worlds
