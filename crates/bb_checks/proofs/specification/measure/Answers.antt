use Rattle.bb_checks.proofs.SpecificationNodes.{each_reports_nodes}
use Rattle.bb_checks.proofs.specification.measure.Goals as goal

pub returns-then-branch : goal.returns-then-branch
returns-then-branch c = record {
  known = each_reports_nodes c.specification_counts.ensures.symbolic c.specification_counts.ensures.local c.specification_counts.ensures.output c.specification_counts-2.ensures c.args.pair.now c.args.options.now
      (c.in_ok-specification_exceeds.ensures.exceeds c.if-branch.true);
}
