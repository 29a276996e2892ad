use Rattle.std.proofs.Common.{◌≡◌, ◌≤◌, length, take}
use Rattle.bb_rup.specs.Inside.Trails.{IsTrail}
use Rattle.bb_rup.proofs.trail.pop_to.Given as goal

abbrev pub invariant-loop-trail : goal.invariant-loop-trail
invariant-loop-trail l = record {
  prefix : l.trail.lits.items ≡ take (length l.trail.lits.items) l.initial.trail.lits.items;
  long : l.place ≤ length l.trail.lits.items;
  trail : IsTrail l.trail;
  room : length l.trail.marks.items ≡ length l.initial.trail.marks.items;
}

abbrev pub decreases-loop-trail : goal.decreases-loop-trail
decreases-loop-trail l = length l.trail.lits.items
