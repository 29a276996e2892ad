use Rattle.std.proofs.Common.{◌≡◌, take}
use Rattle.std.specs.List.{slice_index_or}
use Rattle.bb_hier.specs.Inside.Depths.{height_over}
use Rattle.bb_hier.proofs.depth.height_over.Given as goal

abbrev pub invariant-loop-k : goal.invariant-loop-k
invariant-loop-k l = l.height ≡ height_over (λ k. slice_index_or l.heights k 0) (take l.k-index l.called)
