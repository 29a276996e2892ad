use Rattle.std.proofs.Common.{ap, subst}
use Rattle.bb_checks.specs.Rungs.{MayExpand, reported_expanded}
use Rattle.bb_checks.proofs.Findings.{decides}
use Rattle.bb_checks.proofs.climbing.expand_reports.Goals as goal

pub returns-in-Ok-Error : goal.returns-in-Ok-Error
returns-in-Ok-Error c = record {
  check_result = subst (MayExpand c.args.pair.now c.args.options.now) (ap reported_expanded c.in-Ok-Error.field-0-is)
      (decides c.args.pair.now c.args.options.now c.in-Ok-Error.field-0 c.in-Ok-Error.ensures.ok c.in-Ok-Error.ensures.wide_back);
}

pub returns-in-Ok-Repair : goal.returns-in-Ok-Repair
returns-in-Ok-Repair c = record {
  check_result = subst (MayExpand c.args.pair.now c.args.options.now) (ap reported_expanded c.in-Ok-Repair.field-0-is)
      (decides c.args.pair.now c.args.options.now c.in-Ok-Repair.field-0 c.in-Ok-Repair.ensures.ok c.in-Ok-Repair.ensures.wide_back);
}
