use Rattle.std.proofs.Common.{◌≡◌, take}
use Rattle.bb_blast.specs.Inside.Counting.{capped}
use Rattle.bb_blast.specs.Inside.Listing.{bit_count}
use Rattle.bb_blast.proofs.listing.bit_count.Given as goal

abbrev pub invariant-loop-scope : goal.invariant-loop-scope
invariant-loop-scope l = l.count ≡ capped (bit_count (take l.scope-index l.placed) l.templates)
