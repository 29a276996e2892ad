use Rattle.bb_checks.proofs.Findings.{finds}
use Rattle.bb_checks.proofs.climbing.local_reports.Goals as goal

pub returns : goal.returns
returns c = record { check_result = finds _ _ _ _ _ _ c.local.ensures.found c.local.ensures.none c.local.ensures.nodes c.local.ensures.within c.check_result.ensures.check_result }
