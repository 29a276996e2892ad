use Rattle.std.proofs.Common.{◌≡◌, take}
use Rattle.bb_word.specs.Inside.Adding.{with_outs}
use Rattle.bb_word.proofs.nets.add_outs.Given as goal

abbrev pub invariant-loop-place : goal.invariant-loop-place
invariant-loop-place l = l.net ≡ with_outs l.fn.net (take l.place-index l.places)
