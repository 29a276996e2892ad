use Rattle.bb_replace.proofs.Finished.{finished}
use Rattle.bb_replace.proofs.laws.modules_finish.Goals as goal

pub returns : goal.returns
returns c care modules spec imp contents spec_allowed imp_allowed stands may all needed none small comparable fits computed makes =
    finished c.laws_of_designs.ensures c.replaced_worlds_are_worlds.ensures c.replaced_stay_equivalent.ensures c.replaced_keep_interface.ensures c.replaced_are_allowed.ensures
    care modules spec imp contents spec_allowed imp_allowed stands may all needed none small comparable fits computed makes
