use Rattle.std.proofs.Common.{All, take}
use Rattle.bb_match.specs.Refusals.{HasSameClock}
use Rattle.bb_match.proofs.clocks.first_clocked_apart.Given as goal

abbrev pub invariant-loop-r : goal.invariant-loop-r
invariant-loop-r l = All (HasSameClock l.spec l.imp) (take l.r-index l.r-items)
