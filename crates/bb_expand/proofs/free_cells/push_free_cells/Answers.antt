use Rattle.std.proofs.Common.{◌+◌, [], ◌++◌, length, ap, ◌∙◌, sym, subst, arith}
use Rattle.bb_cnf.specs.Clauses.{lists_of}
use Rattle.bb_net.specs.Netlists.{ReadsBefore, cell_at}
use Rattle.bb_expand.specs.Inside.FreeClauses.{free_cell_clauses}
use Rattle.bb_expand.proofs.FreeCells.{no_box, reads_within}
use Rattle.bb_expand.proofs.Grows.{grown}
use Rattle.bb_expand.proofs.free_cells.push_free_cells.Goals as goal

pub push_free_cell-requires-clause-reads : goal.push_free_cell-requires-clause-reads
push_free_cell-requires-clause-reads c =
    subst (λ cells. ReadsBefore c.args.base [] c.loop-place.place (cell_at cells c.loop-place.place)) (sym c.cells-cell-items.ensures.cells)
    (reads_within c.args.net.now c.cells-cell-items.ensures.kept c.requires.no_boxes c.args.base c.loop-place.place c.requires.inputs (omega (arith, c.loop-place-test.true, ap length c.cells-cell-items.ensures.cells)))

pub push_free_cell-requires-clause-no_box : goal.push_free_cell-requires-clause-no_box
push_free_cell-requires-clause-no_box c b p is =
    no_box c.args.net.now c.cells-cell-items.ensures.kept c.requires.no_boxes c.loop-place.place b p (omega (arith, c.loop-place-test.true, ap length c.cells-cell-items.ensures.cells))
    (ap (λ cells. cell_at cells c.loop-place.place) (sym c.cells-cell-items.ensures.cells) ∙ is)

pub loop-place-preserved : goal.loop-place-preserved
loop-place-preserved c =
    grown (λ place. free_cell_clauses (λ k. c.args.base + k + 1) (c.args.base + place + 1) (cell_at c.args.net.now.cells place))
    c.loop-place.place (lists_of c.args.clauses.now.items) (lists_of c.loop-place.clauses.items) (lists_of c.push_free_cell.new.clauses.items) c.loop-place.invariant
    (c.in_ok-push_free_cell.ensures
    ∙ ap (λ cells. lists_of c.loop-place.clauses.items ++ free_cell_clauses (λ k. c.args.base + k + 1) (c.args.base + c.loop-place.place + 1) (cell_at cells c.loop-place.place)) c.cells-cell-items.ensures.cells)
