use Rattle.bb_ast.specs.Inside.Views.{head_view}
use Rattle.bb_names.proofs.IndexLemmas.{places-none, places-turn, places-all}
use Rattle.bb_names.proofs.indexed.note_ports.Goals as goal

pub loop-place-init : goal.loop-place-init
loop-place-init c = places-none c.args.ports.now.entries c.requires.none

pub loop-place-preserved : goal.loop-place-preserved
loop-place-preserved c =
    places-turn (λ head. head.name) head_view c.args.heads.now c.loop-place.place c.index-heads-place.result c.loop-place.ports.entries c.note_place.new.places.entries c.loop-place-test.true c.index-heads-place.is c.loop-place.invariant
    c.in_ok-note_place.ensures

pub returns : goal.returns
returns c = places-all (λ head. head.name) head_view c.args.heads.now c.loop-place.place c.loop-place.ports.entries c.loop-place-test.false c.loop-place.invariant
