use Rattle.std.proofs.Common.{◌≤◌}
use Rattle.bb_cnf.proofs.partial_resolvent.PartialResolvent.count.Given as goal

abbrev pub invariant-loop-lit : goal.invariant-loop-lit
invariant-loop-lit l = l.count ≤ l.lit-index
