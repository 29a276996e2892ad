use Rattle.std.proofs.Common.{◌<◌, ℕ, length}
use Rattle.bb_uniq.specs.Inside.Probes.{place_after}
use Rattle.bb_uniq.proofs.ProbeLemmas.{IsOther}
use Rattle.bb_uniq.proofs.places.find.Given as goal

abbrev pub invariant-loop-steps : goal.invariant-loop-steps
invariant-loop-steps l = (i : ℕ) → i < l.steps → IsOther l.places l.nodes l.node (place_after (length l.places) l.node i)
