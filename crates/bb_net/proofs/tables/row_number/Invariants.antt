use Rattle.std.proofs.Common.{◌≡◌, map, take}
use Rattle.bb_bits.specs.Numbers.{number_of}
use Rattle.bb_net.specs.Values.{bit_of}
use Rattle.bb_net.proofs.tables.row_number.Given as goal

abbrev pub invariant-loop-place : goal.invariant-loop-place
invariant-loop-place l = l.number ≡ number_of (map (bit_of l.out) (take l.place-index l.places))
