use Rattle.std.proofs.Common.{◌≡◌, flat_map, length}
use Rattle.std.specs.List.{range_with_len}
use Rattle.bb_sym.specs.Functions.{known_tables}
use Rattle.bb_sym.specs.Inside.Made.{Makes}
use Rattle.bb_sym.specs.Inside.Rails.{HaveAllRails, known_rails}
use Rattle.bb_sym.proofs.known_cells.known_cells.Given as goal

abbrev pub invariant-loop-cell : goal.invariant-loop-cell
invariant-loop-cell l =
    (length l.made.items ≡ l.cell-index) × HaveAllRails l.d.store (known_rails l.net) l.made.items × Makes l.fn.d.store l.d.store (flat_map (known_tables l.net) (range_with_len 0 l.cell-index))
