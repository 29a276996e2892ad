use Rattle.std.proofs.Common.{◌≡◌, ◌<◌, ℕ}
use Rattle.std.specs.Prelude.{slice_index}
use Rattle.bb_expand.specs.Inside.Cones.{IsNeverOne}
use Rattle.bb_expand.proofs.outputs.by_outputs.Given as goal

abbrev pub invariant-loop-out : goal.invariant-loop-out
invariant-loop-out l = l.open ≡ 0 → (i : ℕ) → i < l.out-index → IsNeverOne l.net (slice_index l.net.outs i)
