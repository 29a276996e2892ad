use Rattle.bb_parse.proofs.ReadLaws.{faults_are_read}
use Rattle.bb_parse.proofs.laws.faults_are_read.Goals as goal

pub returns : goal.returns
returns c = faults_are_read c.read_bits_are_meant.ensures c.tokens_are_in_text.ensures
