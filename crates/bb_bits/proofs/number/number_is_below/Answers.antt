use Rattle.bb_bits.proofs.NumberLemmas.{number_of-below}
use Rattle.bb_bits.proofs.number.number_is_below.Goals as goal

pub returns : goal.returns
returns c = number_of-below
