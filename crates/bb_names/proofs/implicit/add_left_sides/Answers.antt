use Rattle.bb_ast.specs.Names.{names_in}
use Rattle.bb_ast.specs.Inside.Views.{arm_view}
use Rattle.bb_names.proofs.OnceLemmas.{grown-turn, grown-all}
use Rattle.bb_names.proofs.implicit.add_left_sides.Goals as goal

pub loop-left-preserved : goal.loop-left-preserved
loop-left-preserved c =
    grown-turn c.args.declared.now.entries (λ x. names_in x.0) arm_view c.args.all.now c.loop-left.left-index c.loop-left-item.result c.args.set.now.keys c.loop-left.set.keys c.add_expr.new.set.keys c.loop-left-test.true c.loop-left-item.is
    c.loop-left.invariant c.in_ok-add_expr.ensures

pub returns : goal.returns
returns c = grown-all c.args.declared.now.entries (λ x. names_in x.0) arm_view c.args.all.now c.loop-left.left-index c.args.set.now.keys c.loop-left.set.keys c.loop-left-test.false c.loop-left.invariant
