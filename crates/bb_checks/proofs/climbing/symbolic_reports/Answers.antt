use Rattle.bb_checks.proofs.Findings.{finds}
use Rattle.bb_checks.proofs.climbing.symbolic_reports.Goals as goal

pub returns : goal.returns
returns c = record { check_result = finds _ _ _ _ _ _ c.symbolic.ensures.found c.symbolic.ensures.none c.symbolic.ensures.nodes c.symbolic.ensures.within c.check_result.ensures.check_result }
