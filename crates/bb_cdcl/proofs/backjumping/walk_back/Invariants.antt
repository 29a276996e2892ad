use Rattle.std.proofs.Common.{◌≤◌, IfSome}
use Rattle.bb_cnf.specs.Inside.PartialResolvent.{held}
use Rattle.bb_cdcl.specs.Inside.Analysis.{IsCovered, IsBackjump}
use Rattle.bb_cdcl.proofs.backjumping.walk_back.Given as goal

abbrev pub invariant-loop-at : goal.invariant-loop-at
invariant-loop-at l =
    (l.at ≤ l.place) × IsCovered l.entries (held l.resolvent) l.place l.at × IfSome l.back (IsBackjump l.entries (held l.resolvent) l.place)

abbrev pub decreases-loop-at : goal.decreases-loop-at
decreases-loop-at l = l.at
