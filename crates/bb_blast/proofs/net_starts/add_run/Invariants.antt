use Rattle.std.proofs.Common.{◌≡◌, ◌+◌, ◌++◌, length}
use Rattle.std.specs.List.{range_with_len}
use Rattle.bb_blast.proofs.net_starts.add_run.Given as goal

abbrev pub invariant-loop-turn : goal.invariant-loop-turn
invariant-loop-turn l = (l.numbers.items ≡ l.initial.numbers.items ++ range_with_len l.from l.turn) × (length l.numbers.items ≡ length l.initial.numbers.items + l.turn)
