use Rattle.std.proofs.Common.{◌≡◌, replicate}
use Rattle.std.specs.List.{flat_map, range_with_len}
use Rattle.bb_net.specs.Kinds.{per_box}
use Rattle.bb_net.specs.Netlists.{cell_at}
use Rattle.bb_fill.specs.Lines.{line_text}
use Rattle.bb_fill.specs.Filled.{cell_lines, first_choice}
use Rattle.bb_fill.specs.Inside.TextBuffers.{Adds}
use Rattle.bb_fill.proofs.cells.put_cells.Given as goal

abbrev pub invariant-loop-number : goal.invariant-loop-number
invariant-loop-number l =
    Adds l.initial.out l.out (flat_map (λ k. flat_map (line_text (replicate l.stem 95)) (cell_lines l.flat (per_box l.kinds l.tables) k (cell_at l.flat.net.cells k))) (range_with_len 0 l.number))
    × (l.first ≡ first_choice l.flat l.number)
