use Rattle.std.proofs.Common.{◌-◌}
use Rattle.bb_uniq.specs.Inside.Cofactors.{top_of}
use Rattle.bb_mux.proofs.walk.+place_of.Given as goal

abbrev pub decreases-place_of : goal.decreases-place_of
decreases-place_of l = l.d.now.store.vars - top_of l.d.now.store l.r.0
