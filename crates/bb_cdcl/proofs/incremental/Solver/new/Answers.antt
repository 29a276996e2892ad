use Rattle.std.proofs.Common.{arith}
use Rattle.bb_cdcl.proofs.incremental.Solver.new.Goals as goal

pub invariant_of-result : goal.invariant_of-result
invariant_of-result c =
    let values = c.in_ok-state.ensures.values in
    record {
      known_within = omega arith;
      derived = c.in_ok-state.ensures.derived _;
      ready = c.in_ok-state.ensures.ready;
      few = omega (arith, values);
    }
