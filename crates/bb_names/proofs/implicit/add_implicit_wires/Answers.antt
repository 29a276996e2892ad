use Rattle.bb_ast.specs.Inside.Views.{item_view}
use Rattle.bb_names.specs.Declarations.{implicit_places}
use Rattle.bb_names.proofs.OnceLemmas.{grown-turn, grown-all}
use Rattle.bb_names.proofs.implicit.add_implicit_wires.Goals as goal

pub loop-item-preserved : goal.loop-item-preserved
loop-item-preserved c =
    grown-turn c.args.declared.now.entries (λ item. implicit_places item.body) item_view c.args.items.now c.loop-item.item-index c.item-item.result c.args.set.now.keys c.loop-item.set.keys c.add_item.new.set.keys c.loop-item-test.true c.item-item.is
    c.loop-item.invariant c.in_ok-add_item.ensures

pub returns : goal.returns
returns c = grown-all c.args.declared.now.entries (λ item. implicit_places item.body) item_view c.args.items.now c.loop-item.item-index c.args.set.now.keys c.loop-item.set.keys c.loop-item-test.false c.loop-item.invariant
