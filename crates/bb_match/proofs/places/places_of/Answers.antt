use Rattle.std.proofs.Common.{cond, ap, ◌∙◌}
use Rattle.std.specs.Prelude.{Some}
use Rattle.std.specs.Map.{lookup}
use Rattle.std.proofs.lemmas.List.{take_all}
use Rattle.bb_bits.specs.Names.{same_name}
use Rattle.bb_match.proofs.PlaceLemmas.{places_more, places_end}
use Rattle.bb_match.proofs.places.places_of.Goals as goal

pub loop-place-preserved : goal.loop-place-preserved
loop-place-preserved c =
    places_more c.args.texts.now c.loop-place.places.entries c.insert.new.self.entries c.index-texts-place.result c.loop-place.place c.loop-place-test.true c.index-texts-place.is
    (λ q. c.in_ok-insert.ensures.updates.0 q ∙ ap (λ k. cond (same_name k q) (Some c.loop-place.place) (lookup (same_name q) c.loop-place.places.entries)) c.in_ok-clone.ensures.cases) c.loop-place.invariant

pub returns : goal.returns
returns c = record { places = places_end c.args.texts.now c.loop-place.place c.loop-place.places.entries (take_all c.loop-place.place c.args.texts.now c.loop-place-test.false) c.loop-place.invariant }
