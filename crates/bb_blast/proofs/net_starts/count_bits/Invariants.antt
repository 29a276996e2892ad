use Rattle.std.proofs.Common.{◌≡◌, take}
use Rattle.bb_blast.specs.Inside.BitBlasting.{bit_count}
use Rattle.bb_blast.proofs.net_starts.count_bits.Given as goal

abbrev pub invariant-loop-net : goal.invariant-loop-net
invariant-loop-net l = l.count ≡ bit_count (take l.net-index l.nets)
