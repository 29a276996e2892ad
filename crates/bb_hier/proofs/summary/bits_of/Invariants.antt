use Rattle.std.proofs.Common.{◌≡◌, ◌-◌, ◌^◌, take}
use Rattle.std.specs.Prelude.{min, sum_by}
use Rattle.bb_names.specs.Ranges.{range_width}
use Rattle.bb_hier.proofs.summary.bits_of.Given as goal

abbrev pub invariant-loop-net : goal.invariant-loop-net
invariant-loop-net l = l.bits ≡ min (sum_by (λ net. range_width net.range) (take l.net-index l.nets)) (2 ^ 64 - 1)
