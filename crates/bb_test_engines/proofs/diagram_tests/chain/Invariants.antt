use Rattle.std.proofs.Common.{◌≡◌}
use Rattle.bb_test_engines.proofs.diagram_tests.chain.Given as goal

abbrev pub invariant-loop-i : goal.invariant-loop-i
invariant-loop-i l = l.d.store.vars ≡ 64
