use Rattle.std.proofs.Common.{◌==◌, Contains, refl, get_or}
use Rattle.std.specs.Bool.{Decides}
use Rattle.std.proofs.lemmas.Bool.Decides.{Decides-eqb, not_from_Decides}
use Rattle.std.proofs.lemmas.List.{take_all}
use Rattle.std.proofs.lemmas.List.Elements.{All-more, Decides-contains, contains_decides}
use Rattle.bb_nest.proofs.Loops.{fails}
use Rattle.bb_nest.proofs.cells.hold_cells.Goals as goal

pub returns-then-not-contains : goal.returns-then-not-contains
returns-then-not-contains c =
    let cell = get_or c.args.cells.now c.loop-cell.cell-index 0 in
    let decides : Decides c.contains.result (Contains c.args.ins.now cell) = Decides-contains c.args.ins.now cell c.contains.result (contains_decides ◌==◌ Decides-eqb c.args.ins.now cell c.contains.result c.contains.ensures.cases) in
    fails (λ all. not_from_Decides c.contains.result decides c.if-not-contains.true (all c.loop-cell.cell-index 0 c.loop-cell-test.true))

pub loop-cell-preserved : goal.loop-cell-preserved
loop-cell-preserved c =
    let cell = get_or c.args.cells.now c.loop-cell.cell-index 0 in
    let decides : Decides c.contains.result (Contains c.args.ins.now cell) = Decides-contains c.args.ins.now cell c.contains.result (contains_decides ◌==◌ Decides-eqb c.args.ins.now cell c.contains.result c.contains.ensures.cases) in
    All-more (Contains c.args.ins.now) c.args.cells.now c.loop-cell.cell-index 0 c.loop-cell-test.true c.loop-cell.invariant (decides.0 c.if-not-contains.false)

pub returns : goal.returns
returns c = (λ e. rw (take_all c.loop-cell.cell-index c.args.cells.now c.loop-cell-test.false) at c.loop-cell.invariant, λ h. refl)
