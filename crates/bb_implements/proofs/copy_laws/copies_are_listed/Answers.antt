use Rattle.bb_implements.proofs.CopyLoops.{copies_are_listed}
use Rattle.bb_implements.proofs.copy_laws.copies_are_listed.Goals as goal

pub returns : goal.returns
returns c = copies_are_listed c.laws_of_designs.ensures
