use Rattle.std.proofs.Common.{◌≡◌, take}
use Rattle.bb_blast.specs.Inside.Listing.{input_numbers}
use Rattle.bb_blast.proofs.listing.input_numbers.Given as goal

abbrev pub invariant-loop-register : goal.invariant-loop-register
invariant-loop-register l = l.numbers.items ≡ input_numbers l.top (take l.register-index l.stored)
