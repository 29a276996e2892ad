use Rattle.std.proofs.Common.{◌≡◌, length}
use Rattle.bb_uniq.specs.Inside.Meaning.{Keeps}
use Rattle.bb_sym.specs.Plain.{Reading, IsReadSo}
use Rattle.bb_sym.specs.Inside.Made.{AreRefs}
use Rattle.bb_sym.proofs.NetLoop.{CellsMade}
use Rattle.bb_sym.proofs.cells.net_cells.Given as goal

abbrev pub invariant-loop-cell : goal.invariant-loop-cell
invariant-loop-cell l =
    (length l.made.items ≡ l.cell-index) × AreRefs l.d.store l.made.items × Keeps l.fn.d.store l.d.store
    × ((r : Reading) → IsReadSo l.fn.d.store.vars l.first l.starts l.net r → CellsMade l.fn.d.store l.d.store l.net l.made.items l.cell-index r)
