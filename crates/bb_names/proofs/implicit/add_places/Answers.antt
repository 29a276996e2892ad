use Rattle.bb_ast.specs.Inside.Views.{optional_view}
use Rattle.bb_names.specs.Declarations.{names_in_optional}
use Rattle.bb_names.proofs.OnceLemmas.{grown-turn, grown-all}
use Rattle.bb_names.proofs.implicit.add_places.Goals as goal

pub loop-place-preserved : goal.loop-place-preserved
loop-place-preserved c =
    grown-turn c.args.declared.now.entries names_in_optional optional_view c.args.places.now c.loop-place.place-index c.place-item.result c.args.set.now.keys c.loop-place.set.keys c.add_optional.new.set.keys c.loop-place-test.true c.place-item.is
    c.loop-place.invariant c.in_ok-add_optional.ensures

pub returns : goal.returns
returns c = grown-all c.args.declared.now.entries names_in_optional optional_view c.args.places.now c.loop-place.place-index c.args.set.now.keys c.loop-place.set.keys c.loop-place-test.false c.loop-place.invariant
