use Rattle.std.proofs.Common.{◌≡◌, ℕ, ◌<◌, length, vec_len}
use Rattle.bb_bits.specs.Numbers.{bits_of}
use Rattle.bb_subst.specs.Distinguishing.{AreEquivalentAt}
use Rattle.bb_net.specs.Kinds.{per_box}
use Rattle.bb_expand.proofs.enumeration.first_failure.Given as goal

abbrev pub invariant-loop-number : goal.invariant-loop-number
invariant-loop-number l = record {
  x : vec_len l.x ≡ l.pair.imp.inputs;
  bits : vec_len l.bits ≡ length l.pair.imp.cells;
  wanted : vec_len l.wanted ≡ length l.pair.spec.cells;
  before : (k : ℕ) → k < l.number → AreEquivalentAt l.pair.spec l.pair.imp (per_box l.pair.kinds l.tables) (bits_of l.pair.imp.inputs k);
}
