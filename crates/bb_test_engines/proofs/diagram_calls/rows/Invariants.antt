use Rattle.std.proofs.Common.{◌≡◌}
use Rattle.bb_test_engines.proofs.diagram_calls.rows.Given as goal

abbrev pub invariant-loop-line : goal.invariant-loop-line
invariant-loop-line g l = l.vars ≡ l.d.store.vars
