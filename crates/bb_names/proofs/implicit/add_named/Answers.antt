use Rattle.bb_ast.specs.Inside.Views.{named_view}
use Rattle.bb_names.specs.Declarations.{names_in_optional}
use Rattle.bb_names.proofs.OnceLemmas.{grown-turn, grown-all}
use Rattle.bb_names.proofs.implicit.add_named.Goals as goal

pub loop-place-preserved : goal.loop-place-preserved
loop-place-preserved c =
    grown-turn c.args.declared.now.entries (λ x. names_in_optional x.1) named_view c.args.all.now c.loop-place.place-index c.loop-place-item.result c.args.set.now.keys c.loop-place.set.keys c.add_optional.new.set.keys c.loop-place-test.true c.loop-place-item.is
    c.loop-place.invariant c.in_ok-add_optional.ensures

pub returns : goal.returns
returns c = grown-all c.args.declared.now.entries (λ x. names_in_optional x.1) named_view c.args.all.now c.loop-place.place-index c.args.set.now.keys c.loop-place.set.keys c.loop-place-test.false c.loop-place.invariant
