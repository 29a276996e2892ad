use Rattle.std.proofs.Common.{◌≡◌, ◌≤◌, ◌^◌, take}
use Rattle.bb_net.specs.Completions.{table_bits}
use Rattle.bb_net.proofs.tables.count_bits.Given as goal

abbrev pub invariant-loop-pins : goal.invariant-loop-pins
invariant-loop-pins l = (l.bits ≡ table_bits (take l.pins-index l.boxes)) × (l.bits ≤ 2 ^ 24)
