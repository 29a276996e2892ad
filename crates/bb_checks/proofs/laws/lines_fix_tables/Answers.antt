use Rattle.bb_checks.proofs.TableTexts.{lines_fix_tables}
use Rattle.bb_checks.proofs.laws.lines_fix_tables.Goals as goal

pub returns : goal.returns
returns c = lines_fix_tables c.kind_laws.ensures
