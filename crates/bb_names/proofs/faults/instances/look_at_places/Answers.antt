use Rattle.std.proofs.Common.{ap, ◌∙◌}
use Rattle.std.specs.Prelude.{option_map}
use Rattle.std.specs.Option.{option_and_then}
use Rattle.bb_ast.specs.Inside.Views.{optional_view, module_view}
use Rattle.bb_names.specs.Inside.Firsts.{noted}
use Rattle.bb_names.specs.Sites.{pin_at, joined_sites}
use Rattle.bb_names.proofs.Noting.{place-turn, place-all}
use Rattle.bb_names.proofs.faults.instances.look_at_places.Goals as goal

pub loop-k-preserved : goal.loop-k-preserved
loop-k-preserved c = λ text.
    let m = module_view c.args.of.now in
    let to = option_map (λ t. module_view t.now) c.args.target in
    place-turn text m (λ x. joined_sites (option_and_then (λ t. pin_at t x.0) to) x.1) optional_view c.args.places.now c.loop-k.k c.index-places-k.result c.args.found.now c.loop-k.found c.look_at_place.new.found c.loop-k-test.true c.index-places-k.is (c.loop-k.invariant text)
    (c.in_ok-look_at_place.ensures.noted text ∙ ap (λ p. noted text m c.loop-k.found (joined_sites p (optional_view c.index-places-k.result))) c.pin_by_place.ensures.pin)

pub returns : goal.returns
returns c =
    let to = option_map (λ t. module_view t.now) c.args.target in
    record { noted = λ text. place-all text (module_view c.args.of.now) (λ x. joined_sites (option_and_then (λ t. pin_at t x.0) to) x.1) optional_view c.args.places.now c.loop-k.k c.args.found.now c.loop-k.found c.loop-k-test.false (c.loop-k.invariant text) }
