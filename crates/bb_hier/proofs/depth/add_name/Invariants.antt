use Rattle.std.proofs.Common.{◌≡◌, drop}
use Rattle.std.specs.Prelude.{slice_get}
use Rattle.bb_hier.proofs.InstanceNames.{instances_among}
use Rattle.bb_hier.proofs.depth.add_name.Given as goal

abbrev pub invariant-loop-item : goal.invariant-loop-item
invariant-loop-item l = (l.path.items ≡ l.initial.path.items) × (slice_get (instances_among l.items) l.place ≡ slice_get (instances_among (drop l.item-index l.items)) l.left)
