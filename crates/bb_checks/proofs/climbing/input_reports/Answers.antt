use Rattle.std.proofs.Common.{sym, ap}
use Rattle.bb_checks.specs.Rungs.{Answered, reported_answer}
use Rattle.bb_checks.proofs.climbing.input_reports.Goals as goal

pub returns-in-Ok-Error : goal.returns-in-Ok-Error
returns-in-Ok-Error c = record { check_result = Answered c.in-Ok-Error.ensures.within c.in-Ok-Error.field-0 c.in-Ok-Error.ensures.answer (sym (ap reported_answer c.in-Ok-Error.field-0-is)) }

pub returns-in-Ok-Clear : goal.returns-in-Ok-Clear
returns-in-Ok-Clear c = record { check_result = Answered c.in-Ok-Clear.ensures.within c.in-Ok-Clear.field-0 c.in-Ok-Clear.ensures.answer (sym (ap reported_answer c.in-Ok-Clear.field-0-is)) }

pub returns-in-Ok-Repair : goal.returns-in-Ok-Repair
returns-in-Ok-Repair c = record { check_result = Answered c.in-Ok-Repair.ensures.within c.in-Ok-Repair.field-0 c.in-Ok-Repair.ensures.answer (sym (ap reported_answer c.in-Ok-Repair.field-0-is)) }
