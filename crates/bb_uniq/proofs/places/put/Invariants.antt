use Rattle.std.proofs.Common.{◌≡◌, ◌≢◌, ◌<◌, ℕ, length}
use Rattle.bb_uniq.specs.Inside.Probes.{place_after, at_place}
use Rattle.bb_uniq.proofs.places.put.Given as goal

abbrev pub invariant-loop-steps : goal.invariant-loop-steps
invariant-loop-steps l = (l.places ≡ l.fn.places) × ((i : ℕ) → i < l.steps → at_place l.fn.places (place_after (length l.fn.places) l.fn.node i) ≢ 0)
