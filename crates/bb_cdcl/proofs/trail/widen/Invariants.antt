use Rattle.std.proofs.Common.{◌≡◌, ◌≤◌, ◌+◌, ◌-◌, length}
use Rattle.bb_cdcl.specs.Inside.Trails.{AreValues, HasRoom}
use Rattle.bb_cdcl.proofs.trail.widen.Given as goal

abbrev pub invariant-loop-trail : goal.invariant-loop-trail
invariant-loop-trail l = record {
  entries : l.trail.entries.items ≡ l.initial.trail.entries.items;
  values : AreValues l.trail.entries.items l.trail.values.items;
  room : HasRoom l.trail.entries.items l.trail.values.items;
  few : length l.trail.values.items ≤ l.vars + 1;
}

abbrev pub decreases-loop-trail : goal.decreases-loop-trail
decreases-loop-trail l = l.vars + 1 - length l.trail.values.items
