use Rattle.std.proofs.Common.{replicate, take}
use Rattle.std.specs.List.{flat_map}
use Rattle.bb_fill.specs.Lines.{line_text}
use Rattle.bb_fill.specs.Filled.{register_lines}
use Rattle.bb_fill.specs.Inside.TextBuffers.{Adds}
use Rattle.bb_fill.proofs.sections.put_states.Given as goal

abbrev pub invariant-loop-r : goal.invariant-loop-r
invariant-loop-r l = Adds l.initial.out l.out (flat_map (line_text (replicate l.stem 95)) (register_lines l.flat 0 (take l.r l.reg-items)))
