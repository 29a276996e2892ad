use Rattle.std.proofs.Common.{length}
use Rattle.bb_subst.proofs.trees.+add_tree.Given as goal

abbrev pub decreases-add_tree : goal.decreases-add_tree
decreases-add_tree l = length l.pins.now
