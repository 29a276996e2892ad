use Rattle.bb_replace.proofs.Allowed.{replaced_allowed}
use Rattle.bb_replace.proofs.laws.replaced_are_allowed.Goals as goal

pub returns : goal.returns
returns c modules d may all stands allowed small = replaced_allowed c.laws_of_designs.ensures modules d may all stands allowed small
