use Rattle.bb_unroll.proofs.ViolationBits.{violations_are_seen}
use Rattle.bb_unroll.proofs.laws.violations_are_seen.Goals as goal

pub returns : goal.returns
returns c = violations_are_seen c.value_exists.ensures c.value_is_unique.ensures c.unrolled_have_bits.ensures
