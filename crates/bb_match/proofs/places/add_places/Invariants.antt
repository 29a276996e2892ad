use Rattle.std.proofs.Common.{◌≡◌, ◌+◌, ◌++◌, map, take}
use Rattle.bb_match.specs.Inside.Places.{text_place}
use Rattle.bb_match.proofs.places.add_places.Given as goal

abbrev pub invariant-loop-text : goal.invariant-loop-text
invariant-loop-text l = l.list.items ≡ l.initial.list.items ++ map (λ text. l.base + text_place l.places.entries text) (take l.text-index l.texts)
