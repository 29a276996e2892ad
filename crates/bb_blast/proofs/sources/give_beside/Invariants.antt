use Rattle.std.proofs.Common.{◌≡◌, take}
use Rattle.bb_blast.specs.Inside.Listing.{given_all, beside}
use Rattle.bb_blast.proofs.sources.give_beside.Given as goal

abbrev pub invariant-loop-k : goal.invariant-loop-k
invariant-loop-k l = l.sources ≡ given_all l.initial.sources (take l.k (beside l.first l.bits l.places))
