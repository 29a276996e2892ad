use Rattle.std.proofs.Common.{map}
use Rattle.bb_names.specs.Inside.Checked.{syntax}
use Rattle.bb_hier.proofs.DepthWalks.{IsOnWay}
use Rattle.bb_hier.proofs.depth.first_low.Given as goal

abbrev pub invariant-loop-level : goal.invariant-loop-level
invariant-loop-level l = IsOnWay (map syntax l.checked) l.top l.level l.place l.path.items
