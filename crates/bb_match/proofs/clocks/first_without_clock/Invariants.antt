use Rattle.std.proofs.Common.{All, take}
use Rattle.std.specs.Prelude.{IsSome}
use Rattle.bb_match.proofs.clocks.first_without_clock.Given as goal

abbrev pub invariant-loop-r : goal.invariant-loop-r
invariant-loop-r l = All (λ r. IsSome r.clock) (take l.r-index l.regs)
