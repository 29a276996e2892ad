use Rattle.std.proofs.Common.{◌+◌, ◌++◌, length, ap, ◌∙◌, sym, arith}
use Rattle.bb_cnf.specs.Clauses.{lists_of}
use Rattle.bb_net.specs.Netlists.{cell_at}
use Rattle.bb_expand.specs.Expansions.{cell_clauses}
use Rattle.bb_expand.proofs.Grows.{grown}
use Rattle.bb_expand.proofs.cells.push_cells.Goals as goal

pub push_cell-requires-clause-listed : goal.push_cell-requires-clause-listed
push_cell-requires-clause-listed c b p is =
    rw c.boxes-boxes.ensures.boxes (c.boxes-boxes.ensures.kept.listed c.loop-place.place b p (omega (arith, c.loop-place-test.true, ap length c.cells-cell-items.ensures.cells)) (ap (λ cells. cell_at cells c.loop-place.place) (sym c.cells-cell-items.ensures.cells) ∙ is)).0

pub loop-place-preserved : goal.loop-place-preserved
loop-place-preserved c =
    grown (λ place. cell_clauses c.args.kinds.now c.args.imp.now.boxes c.args.x.now (λ k. c.args.base + k + 1) (c.args.base + place + 1) (cell_at c.args.imp.now.cells place))
    c.loop-place.place (lists_of c.args.clauses.now.items) (lists_of c.loop-place.clauses.items) (lists_of c.push_cell.new.clauses.items) c.loop-place.invariant
    (c.in_ok-push_cell.ensures
    ∙ ap (λ boxes. lists_of c.loop-place.clauses.items ++ cell_clauses c.args.kinds.now boxes c.args.x.now (λ k. c.args.base + k + 1) (c.args.base + c.loop-place.place + 1) (cell_at c.cells-cell-items.result.now c.loop-place.place)) c.boxes-boxes.ensures.boxes
    ∙ ap (λ cells. lists_of c.loop-place.clauses.items ++ cell_clauses c.args.kinds.now c.args.imp.now.boxes c.args.x.now (λ k. c.args.base + k + 1) (c.args.base + c.loop-place.place + 1) (cell_at cells c.loop-place.place)) c.cells-cell-items.ensures.cells)
