use Rattle.std.proofs.Common.{◌≡◌, ◌++◌}
use Rattle.std.specs.List.{flat_map, range_with_len}
use Rattle.bb_make.specs.Adders.{cell, stage_line}
use Rattle.bb_make.proofs.adder.push_stages.Given as goal

abbrev pub invariant-loop-i : goal.invariant-loop-i
invariant-loop-i l = l.text.items ≡ l.initial.text.items ++ flat_map (λ i. stage_line (cell l.gap i) l.n i) (range_with_len 0 l.i)
