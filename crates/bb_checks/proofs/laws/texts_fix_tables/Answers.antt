use Rattle.bb_checks.proofs.TableTexts.{texts_fix_tables}
use Rattle.bb_checks.proofs.laws.texts_fix_tables.Goals as goal

pub returns : goal.returns
returns c = texts_fix_tables c.kind_laws.ensures
