use Rattle.std.proofs.Common.{◌≡◌, ◌≤◌, length, take}
use Rattle.bb_cdcl.specs.Inside.Trails.{AreValues, HasRoom}
use Rattle.bb_cdcl.proofs.trail.pop_to.Given as goal

abbrev pub invariant-loop-trail : goal.invariant-loop-trail
invariant-loop-trail l = record {
  prefix : l.trail.entries.items ≡ take (length l.trail.entries.items) l.initial.trail.entries.items;
  long : l.place ≤ length l.trail.entries.items;
  values : AreValues l.trail.entries.items l.trail.values.items;
  room : HasRoom l.trail.entries.items l.trail.values.items;
  same : length l.trail.values.items ≡ length l.initial.trail.values.items;
}

abbrev pub decreases-loop-trail : goal.decreases-loop-trail
decreases-loop-trail l = length l.trail.entries.items
