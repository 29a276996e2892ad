use Rattle.std.proofs.Common.{◌-◌, min}
use Rattle.bb_uniq.specs.Inside.Cofactors.{top_of}
use Rattle.bb_dd.proofs.apply.+apply.Given as goal

-- how many variables are from the first one of the three on
abbrev pub decreases-apply : goal.decreases-apply
decreases-apply l = let s = l.store.now in s.vars - min (min (top_of s l.call.f.0) (top_of s l.call.g.0)) (top_of s l.call.h.0)
