use Rattle.std.proofs.Common.{◌≡◌, ◌++◌, take}
use Rattle.std.specs.List.{flat_map}
use Rattle.bb_checks.specs.TableLines.{printed_bit}
use Rattle.bb_checks.proofs.bits.push_bits.Given as goal

abbrev pub invariant-loop-bit : goal.invariant-loop-bit
invariant-loop-bit l = l.text.items ≡ l.initial.text.items ++ flat_map printed_bit (take l.bit-index l.bits)
