use Rattle.bb_cdcl.proofs.units.resolve_units.Goals as goal

pub loop-lit-preserved : goal.loop-lit-preserved
loop-lit-preserved c = record {
  listed = c.in_ok-resolve_unit.ensures.listed;
  covered = λ entries place back e occurs is before. c.in_ok-resolve_unit.ensures.covered entries place back e occurs is (c.loop-lit.invariant.covered entries place back e occurs is before);
  resolved = λ first before. c.in_ok-resolve_unit.ensures.resolved first (c.loop-lit.invariant.resolved first before);
}
