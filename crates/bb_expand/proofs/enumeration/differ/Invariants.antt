use Rattle.std.proofs.Common.{◌≡◌, ℕ, ◌<◌, get_or}
use Rattle.bb_net.specs.Values.{bit_of}
use Rattle.bb_expand.proofs.enumeration.differ.Given as goal

abbrev pub invariant-loop-j : goal.invariant-loop-j
invariant-loop-j l = (k : ℕ) → k < l.j → bit_of l.bits (get_or l.places k 0) ≡ bit_of l.wanted (get_or l.wanted_places k 0)
