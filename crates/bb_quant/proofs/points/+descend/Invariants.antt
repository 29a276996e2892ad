use Rattle.std.proofs.Common.{◌-◌}
use Rattle.bb_uniq.specs.Inside.Cofactors.{top_of}
use Rattle.bb_quant.proofs.points.+descend.Given as goal

abbrev pub decreases-descend : goal.decreases-descend
decreases-descend l = l.d.now.store.vars - top_of l.d.now.store l.f.0
