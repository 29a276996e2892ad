use Rattle.std.proofs.Common.{replicate}
use Rattle.std.specs.List.{flat_map, range_with_len}
use Rattle.bb_fill.specs.Words.{word_at}
use Rattle.bb_fill.specs.Lines.{line_text}
use Rattle.bb_fill.specs.Inside.Levels.{level_choice}
use Rattle.bb_fill.specs.Inside.TextBuffers.{Adds}
use Rattle.bb_fill.proofs.trees.put_level.Given as goal

abbrev pub invariant-loop-i : goal.invariant-loop-i
invariant-loop-i l = Adds l.initial.out l.out (flat_map (λ i. line_text (replicate l.stem 95) (level_choice l.table l.p l.values (word_at l.flat l.pin) l.first i)) (range_with_len 0 l.i))
