use Rattle.bb_replace.proofs.ReplacedDesigns.{keeps_interface}
use Rattle.bb_replace.proofs.ReplacedRegisters.{below}
use Rattle.bb_replace.proofs.laws.replaced_keep_interface.Goals as goal

pub returns : goal.returns
returns c modules d bounded may = keeps_interface modules d (below c.laws_of_designs.ensures d bounded) may
