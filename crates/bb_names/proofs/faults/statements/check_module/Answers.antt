use Rattle.bb_names.proofs.DeclaredLists.{none_described}
use Rattle.bb_names.proofs.faults.statements.check_module.Goals as goal

pub check_statements-requires-clause-none : goal.check_statements-requires-clause-none
check_statements-requires-clause-none c = none_described c.in_ok-earlier.earlier.entries c.in_ok-earlier.ensures.empty
