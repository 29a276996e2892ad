use Rattle.std.proofs.Common.{◌≡◌, ◌≤◌, length, not, take}
use Rattle.std.specs.List.{filter}
use Rattle.bb_bits.specs.Earlier.{has_name}
use Rattle.bb_net.specs.CutPoints.{state_texts}
use Rattle.bb_fill.proofs.sizes.plain_count.Given as goal

abbrev pub invariant-loop-o : goal.invariant-loop-o
invariant-loop-o l = (l.count ≡ length (filter (λ text. not (has_name text (state_texts l.flat))) (take l.o l.flat.outs))) × (l.count ≤ l.o)
