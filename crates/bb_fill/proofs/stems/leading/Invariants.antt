use Rattle.std.proofs.Common.{◌≡◌, ◌+◌, drop}
use Rattle.bb_fill.specs.Words.{leading}
use Rattle.bb_fill.proofs.stems.leading.Given as goal

abbrev pub invariant-loop-i : goal.invariant-loop-i
invariant-loop-i l = leading l.bytes ≡ l.i + leading (drop l.i l.bytes)
