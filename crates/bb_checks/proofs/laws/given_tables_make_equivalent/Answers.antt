use Rattle.bb_checks.proofs.RepairLaw.{given_tables_make_equivalent}
use Rattle.bb_checks.proofs.laws.given_tables_make_equivalent.Goals as goal

pub returns : goal.returns
returns c = given_tables_make_equivalent c.kind_laws.ensures
