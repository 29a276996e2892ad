use Rattle.std.proofs.Common.{◌≡◌, false, take}
use Rattle.bb_expr.specs.Inside.Instantiation.{read_by}
use Rattle.bb_expr.proofs.circuits.some_reads.Given as goal

abbrev pub invariant-loop-cell : goal.invariant-loop-cell
invariant-loop-cell l = read_by l.place (take l.cell-index l.cells) ≡ false
