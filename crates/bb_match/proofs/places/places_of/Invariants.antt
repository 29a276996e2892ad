use Rattle.bb_match.proofs.PlaceLemmas.{ArePlacesSo}
use Rattle.bb_match.proofs.places.places_of.Given as goal

abbrev pub invariant-loop-place : goal.invariant-loop-place
invariant-loop-place l = ArePlacesSo l.texts l.place l.places.entries
