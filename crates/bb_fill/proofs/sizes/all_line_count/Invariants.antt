use Rattle.std.proofs.Common.{◌≡◌, ◌≤◌, ◌*◌, ◌^◌, length}
use Rattle.std.specs.List.{flat_map, range_with_len}
use Rattle.bb_net.specs.Kinds.{per_box}
use Rattle.bb_net.specs.Netlists.{cell_at}
use Rattle.bb_fill.specs.Filled.{cell_lines, first_choice}
use Rattle.bb_fill.proofs.sizes.all_line_count.Given as goal

abbrev pub invariant-loop-number : goal.invariant-loop-number
invariant-loop-number l =
    (l.count ≡ length (flat_map (λ k. cell_lines l.flat (per_box l.kinds l.tables) k (cell_at l.flat.net.cells k)) (range_with_len 0 l.number)))
    × (first_choice l.flat l.number ≤ l.count) × (l.count ≤ l.number * 2 ^ 25)
