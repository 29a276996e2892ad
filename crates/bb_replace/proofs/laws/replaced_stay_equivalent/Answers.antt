use Rattle.std.proofs.Common.{subst, sym}
use Rattle.bb_equiv.specs.DesignEquivalence.{HaveSameBits}
use Rattle.bb_design.specs.Worlds.{outputs_in}
use Rattle.bb_replace.proofs.laws.replaced_stay_equivalent.Goals as goal

pub returns : goal.returns
returns c care modules spec imp contents bounded may computed equivalent x w v spec_world spec_vector imp_world imp_vector required =
    let too = c.replaced_worlds_are_worlds.ensures modules imp contents v bounded may computed imp_world in
    subst (HaveSameBits care (outputs_in spec w)) (sym too.outputs) (equivalent x w v spec_world spec_vector too.world ((too.vector x).0 imp_vector) required)
