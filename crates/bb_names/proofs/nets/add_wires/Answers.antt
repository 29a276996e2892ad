use Rattle.bb_ast.specs.Inside.Views.{named_view}
use Rattle.bb_names.proofs.NetLemmas.{placed-turn, placed-all}
use Rattle.bb_names.proofs.nets.add_wires.Goals as goal

pub loop-name-preserved : goal.loop-name-preserved
loop-name-preserved c =
    placed-turn (λ x. x.0) named_view c.args.all.now c.loop-name.name-index c.loop-name-item.result c.args.index.now.entries c.loop-name.index.entries c.add_name.new.index.entries c.loop-name-test.true c.loop-name-item.is c.loop-name.invariant c.in_ok-add_name.ensures

pub returns : goal.returns
returns c = placed-all (λ x. x.0) named_view c.args.all.now c.loop-name.name-index c.args.index.now.entries c.loop-name.index.entries c.loop-name-test.false c.loop-name.invariant
