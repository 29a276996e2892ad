use Rattle.bb_bits.proofs.NumberLemmas.{number_of-push}
use Rattle.bb_bits.proofs.number.number_doubles.Goals as goal

pub returns : goal.returns
returns c = number_of-push
