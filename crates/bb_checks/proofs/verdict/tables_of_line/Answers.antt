use Rattle.std.proofs.Common.{sym}
use Rattle.bb_checks.proofs.verdict.tables_of_line.Goals as goal

pub returns-in-Repair-clause-some : goal.returns-in-Repair-clause-some
returns-in-Repair-clause-some c = (c.in-Repair.tables, c.in-Repair.is, sym c.deref.ensures.value)
