use Rattle.bb_bits.proofs.NumberLemmas.{length-bits_of, number_of-bits_of}
use Rattle.bb_bits.proofs.number.number_spelled.Goals as goal

pub returns-clause-length : goal.returns-clause-length
returns-clause-length c = length-bits_of

pub returns-clause-number : goal.returns-clause-number
returns-clause-number c = number_of-bits_of
