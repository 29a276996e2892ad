use Rattle.std.proofs.Common.{◌-◌}
use Rattle.bb_uniq.specs.Inside.Cofactors.{top_of}
use Rattle.bb_sym.proofs.variables.+mark.Given as goal

abbrev pub decreases-mark : goal.decreases-mark
decreases-mark l = l.d.now.store.vars - top_of l.d.now.store l.f.0
