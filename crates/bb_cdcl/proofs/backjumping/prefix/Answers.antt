use Rattle.std.proofs.Common.{◌≤◌, arith}
use Rattle.bb_cdcl.proofs.Backjumps.{prefix_more}
use Rattle.bb_cdcl.proofs.backjumping.prefix.Goals as goal

pub loop-lit-preserved : goal.loop-lit-preserved
loop-lit-preserved c =
    let root : c.loop-lit.prefix ≤ c.max-prefix.result = omega (arith, c.max-prefix.ensures) in
    let high : c.in_ok-prefix_for.field-0 ≤ c.max-prefix.result = omega (arith, c.max-prefix.ensures) in
    record {
      before = omega (arith, c.max-prefix.ensures, c.loop-lit.invariant.before, c.in_ok-prefix_for.ensures.before);
      others = prefix_more _ _ _ _ _ _ _ _ _ c.loop-lit-test.true root high c.loop-lit.invariant.others c.in_ok-prefix_for.ensures.enough;
    }
