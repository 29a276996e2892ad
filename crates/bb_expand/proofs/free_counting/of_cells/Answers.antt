use Rattle.std.proofs.Common.{◌+◌, length, ap, ◌∙◌, sym, arith}
use Rattle.std.specs.List.{flat_map, range_with_len}
use Rattle.bb_net.specs.Netlists.{cell_at}
use Rattle.bb_expand.specs.Inside.FreeClauses.{free_cell_clauses}
use Rattle.bb_expand.proofs.FreeCells.{no_box}
use Rattle.bb_expand.proofs.FreeCounts.{counted_more}
use Rattle.bb_expand.proofs.free_counting.of_cells.Goals as goal

pub of_cell-count-requires : goal.of_cell-count-requires
of_cell-count-requires c = record {
  no_box = λ b p is. no_box c.args.net.now c.cells-cells.ensures.kept c.requires c.loop-cell.cell-index b p (omega (arith, c.loop-cell-test.true, ap length c.cells-cells.ensures.cells))
      (ap (λ cells. cell_at cells c.loop-cell.cell-index) (sym c.cells-cells.ensures.cells) ∙ is);
}

pub loop-cell-preserved : goal.loop-cell-preserved
loop-cell-preserved c = record {
  count = λ base. counted_more (λ place. free_cell_clauses (λ k. base + k + 1) (base + place + 1) (cell_at c.args.net.now.cells place)) c.loop-cell.cell-index c.loop-cell.count c.of_cell-count.result
      (c.loop-cell.invariant.count base)
      (c.of_cell-count.ensures.count (λ k. base + k + 1) (base + c.loop-cell.cell-index + 1)
      ∙ ap (λ cells. length (free_cell_clauses (λ k. base + k + 1) (base + c.loop-cell.cell-index + 1) (cell_at cells c.loop-cell.cell-index))) c.cells-cells.ensures.cells);
  most = omega (arith, c.loop-cell.invariant.most, c.of_cell-count.ensures.most);
}

pub returns-clause-count : goal.returns-clause-count
returns-clause-count c base =
    c.loop-cell.invariant.count base
    ∙ ap (λ n. length (flat_map (λ place. free_cell_clauses (λ k. base + k + 1) (base + place + 1) (cell_at c.args.net.now.cells place)) (range_with_len 0 n)))
    (omega (arith, c.loop-cell-test.false, c.loop-cell.auto.cell-index-end, ap length c.cells-cells.ensures.cells))

pub returns-clause-most : goal.returns-clause-most
returns-clause-most c = omega (arith, c.loop-cell.invariant.most, c.loop-cell.auto.cell-index-end, ap length c.cells-cells.ensures.cells, c.cells-cells.ensures.kept.cells_fit)
