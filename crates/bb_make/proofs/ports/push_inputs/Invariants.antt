use Rattle.std.proofs.Common.{◌≡◌, ◌++◌}
use Rattle.std.specs.List.{flat_map}
use Rattle.bb_make.specs.Adders.{bit_numbers}
use Rattle.bb_make.proofs.Joined.{two_bits}
use Rattle.bb_make.proofs.ports.push_inputs.Given as goal

abbrev pub invariant-loop-i : goal.invariant-loop-i
invariant-loop-i l = l.text.items ++ flat_map two_bits (bit_numbers l.i) ≡ l.initial.text.items ++ flat_map two_bits (bit_numbers l.n)
