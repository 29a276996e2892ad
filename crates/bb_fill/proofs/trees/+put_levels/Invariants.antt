use Rattle.std.proofs.Common.{length}
use Rattle.bb_fill.proofs.trees.+put_levels.Given as goal

abbrev pub decreases-put_levels : goal.decreases-put_levels
decreases-put_levels l = length l.pins.now
