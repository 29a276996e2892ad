use Rattle.std.proofs.Common.{◌≡◌, take}
use Rattle.bb_blast.specs.Inside.Listing.{given_all, all_given_by}
use Rattle.bb_blast.proofs.sources.give_all.Given as goal

abbrev pub invariant-loop-bit : goal.invariant-loop-bit
invariant-loop-bit l = l.sources ≡ given_all l.initial.sources (all_given_by l.first (take l.bit-index l.bits) l.place)
