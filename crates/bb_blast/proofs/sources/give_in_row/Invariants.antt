use Rattle.std.proofs.Common.{◌≡◌, take}
use Rattle.bb_blast.specs.Inside.Counting.{after}
use Rattle.bb_blast.specs.Inside.Listing.{given_all, in_row}
use Rattle.bb_blast.proofs.sources.give_in_row.Given as goal

abbrev pub invariant-loop-bit : goal.invariant-loop-bit
invariant-loop-bit l = (l.sources ≡ given_all l.initial.sources (in_row l.first (take l.bit-index l.bits) l.base)) × (l.place ≡ after l.base l.bit-index)
