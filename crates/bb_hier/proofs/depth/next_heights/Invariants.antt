use Rattle.std.proofs.Common.{◌≡◌, map, take}
use Rattle.std.specs.List.{slice_index_or}
use Rattle.bb_hier.specs.Inside.Depths.{height_over}
use Rattle.bb_hier.proofs.depth.next_heights.Given as goal

abbrev pub invariant-loop-called : goal.invariant-loop-called
invariant-loop-called l = l.next.items ≡ map (height_over (λ k. slice_index_or l.heights k 0)) (map (λ list. list.items) (take l.called-index l.callees))
