use Rattle.std.proofs.Common.{◌≡◌, take}
use Rattle.bb_blast.specs.Inside.Listing.{outs_of}
use Rattle.bb_blast.proofs.listing.outs_of.Given as goal

abbrev pub invariant-loop-register : goal.invariant-loop-register
invariant-loop-register l = l.outs.items ≡ outs_of l.nets l.top (take l.register-index l.stored) l.next
