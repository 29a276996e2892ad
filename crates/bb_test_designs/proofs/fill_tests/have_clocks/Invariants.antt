use Rattle.std.proofs.Common.{All, take}
use Rattle.std.specs.Prelude.{IsSome}
use Rattle.bb_test_designs.proofs.fill_tests.have_clocks.Given as goal

abbrev pub invariant-loop-reg : goal.invariant-loop-reg
invariant-loop-reg l = All (λ r. IsSome r.clock) (take l.reg-index l.regs)
