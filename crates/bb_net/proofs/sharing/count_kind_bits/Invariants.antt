use Rattle.std.proofs.Common.{◌≡◌, ◌≤◌, ◌^◌, length, take}
use Rattle.bb_net.specs.Completions.{table_bits}
use Rattle.bb_net.specs.Kinds.{representatives}
use Rattle.bb_net.proofs.sharing.count_kind_bits.Given as goal

abbrev pub invariant-loop-b : goal.invariant-loop-b
invariant-loop-b l = (l.bits ≡ table_bits (representatives (take l.b l.kinds) (take l.b l.boxes))) × (l.bits ≤ 2 ^ 24) × (l.count ≡ length (representatives (take l.b l.kinds) (take l.b l.boxes)))
