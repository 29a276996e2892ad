use Rattle.bb_unroll.proofs.UnrolledBits.{unrolled_have_bits}
use Rattle.bb_unroll.proofs.laws.unrolled_have_bits.Goals as goal

pub returns : goal.returns
returns c = unrolled_have_bits c.value_exists.ensures c.value_is_unique.ensures
