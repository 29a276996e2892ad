use Rattle.bb_checks.proofs.RepairLaw.{tables_are_given_once}
use Rattle.bb_checks.proofs.laws.tables_are_given_once.Goals as goal

pub returns : goal.returns
returns c = tables_are_given_once
