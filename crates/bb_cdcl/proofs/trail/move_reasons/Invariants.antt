use Rattle.std.proofs.Common.{◌≡◌}
use Rattle.bb_cdcl.specs.Inside.Trails.{moved_entry}
use Rattle.bb_cdcl.proofs.Resumed.{iterated}
use Rattle.bb_cdcl.proofs.trail.move_reasons.Given as goal

abbrev pub invariant-loop-place : goal.invariant-loop-place
invariant-loop-place l = record {
  entries : l.trail.entries.items ≡ iterated (moved_entry l.given l.more) l.place l.initial.trail.entries.items;
  values : l.trail.values ≡ l.initial.trail.values;
}
