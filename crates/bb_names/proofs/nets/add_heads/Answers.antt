use Rattle.bb_ast.specs.Inside.Views.{head_view}
use Rattle.bb_names.proofs.NetLemmas.{placed-turn, placed-all}
use Rattle.bb_names.proofs.nets.add_heads.Goals as goal

pub loop-head-preserved : goal.loop-head-preserved
loop-head-preserved c =
    placed-turn (λ head. head.name) head_view c.args.heads.now c.loop-head.head-index c.head-item.result c.args.index.now.entries c.loop-head.index.entries c.add_name.new.index.entries c.loop-head-test.true c.head-item.is c.loop-head.invariant c.in_ok-add_name.ensures

pub returns : goal.returns
returns c = placed-all (λ head. head.name) head_view c.args.heads.now c.loop-head.head-index c.args.index.now.entries c.loop-head.index.entries c.loop-head-test.false c.loop-head.invariant
