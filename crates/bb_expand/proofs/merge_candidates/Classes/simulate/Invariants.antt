use Rattle.std.proofs.Common.{◌-◌, length}
use Rattle.bb_expand.proofs.merge_candidates.Classes.simulate.Given as goal

abbrev pub decreases-loop-start : goal.decreases-loop-start
decreases-loop-start l = length l.patterns - l.start
