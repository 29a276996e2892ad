use Rattle.std.proofs.Common.{All, length, take}
use Rattle.std.specs.List.{range_with_len}
use Rattle.bb_fill.specs.Clashes.{IsItsRegister}
use Rattle.bb_fill.proofs.clashes.first_output.Given as goal

abbrev pub invariant-loop-o : goal.invariant-loop-o
invariant-loop-o l = All (IsItsRegister l.flat) (take l.o (range_with_len 0 (length l.flat.outs)))
