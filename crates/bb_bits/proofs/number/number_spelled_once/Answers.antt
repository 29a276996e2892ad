use Rattle.bb_bits.proofs.NumberLemmas.{bits_of-number_of}
use Rattle.bb_bits.proofs.number.number_spelled_once.Goals as goal

pub returns : goal.returns
returns c = bits_of-number_of
