use Rattle.std.proofs.Common.{◌≡◌, ◌≤◌, length}
use Rattle.bb_net.specs.Kinds.{per_box}
use Rattle.bb_subst.specs.Inside.Filling.{IsFilledUpTo}
use Rattle.bb_subst.proofs.filling.add_cells.Given as goal

abbrev pub invariant-loop-k : goal.invariant-loop-k
invariant-loop-k l = IsFilledUpTo l.old (per_box l.kinds l.tables) l.k l.new l.places.items × (l.k-end ≡ length l.old.cells) × (l.k ≤ length l.old.cells)
