use Rattle.std.proofs.Common.{arith}
use Rattle.bb_strash.proofs.BitLaws.{bits_are_gates, bits_stay}
use Rattle.bb_strash.proofs.GateBits.{begins, one_bit, zero_bit}
use Rattle.bb_strash.proofs.bit_laws.bits.Goals as goal

pub returns-clause-gates : goal.returns-clause-gates
returns-clause-gates c = bits_are_gates c.value_exists.ensures

pub returns-clause-stay : goal.returns-clause-stay
returns-clause-stay c = bits_stay c.occurrences_keep_bits.ensures

pub returns-clause-constants : goal.returns-clause-constants
returns-clause-constants c = λ net kept none.
    let gates = bits_are_gates c.value_exists.ensures in
    (omega (arith, begins net kept), λ x. (zero_bit gates net kept none x, one_bit gates net kept none x))
