use Rattle.std.proofs.Common.{map}
use Rattle.bb_hier.proofs.DepthHeights.{AreHeights}
use Rattle.bb_hier.proofs.depth.heights_of.Given as goal

abbrev pub invariant-loop-round : goal.invariant-loop-round
invariant-loop-round l = AreHeights (map (λ list. list.items) l.callees) l._round l.heights.items
