use Rattle.std.proofs.Common.{replicate}
use Rattle.std.specs.List.{flat_map, range_with_len}
use Rattle.bb_fill.specs.Lines.{line_text}
use Rattle.bb_fill.specs.Filled.{output_lines}
use Rattle.bb_fill.specs.Inside.TextBuffers.{Adds}
use Rattle.bb_fill.proofs.sections.put_outputs.Given as goal

abbrev pub invariant-loop-o : goal.invariant-loop-o
invariant-loop-o l = Adds l.initial.out l.out (flat_map (λ o. flat_map (line_text (replicate l.stem 95)) (output_lines l.flat o)) (range_with_len 0 l.o))
