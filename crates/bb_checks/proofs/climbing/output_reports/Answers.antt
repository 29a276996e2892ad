use Rattle.bb_checks.proofs.Findings.{finds}
use Rattle.bb_checks.proofs.climbing.output_reports.Goals as goal

pub returns : goal.returns
returns c = record { check_result = finds _ _ _ _ _ _ c.output.ensures.found c.output.ensures.none c.output.ensures.nodes c.output.ensures.within c.check_result.ensures.check_result }
