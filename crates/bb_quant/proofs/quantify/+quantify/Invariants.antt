use Rattle.std.proofs.Common.{◌+◌, ◌-◌, ◌*◌}
use Rattle.bb_uniq.specs.Inside.Cofactors.{top_of}
use Rattle.bb_quant.proofs.quantify.+quantify.Given as goal

-- a node of the variable u takes the step below that of a diagram that is at u
abbrev pub decreases-quantify : goal.decreases-quantify
decreases-quantify l = 2 * (l.d.now.store.vars - top_of l.d.now.store l.f.0) + 1

abbrev pub decreases-quantify_node : goal.decreases-quantify_node
decreases-quantify_node l = 2 * (l.d.now.store.vars - l.var)
