use Rattle.bb_checks.proofs.RepairLaw.{repairs_make_equivalent}
use Rattle.bb_checks.proofs.laws.repairs_make_equivalent.Goals as goal

pub returns : goal.returns
returns c = repairs_make_equivalent c.kind_laws.ensures
