use Rattle.bb_parse.proofs.ReadLaws.{faults_are_one}
use Rattle.bb_parse.proofs.laws.faults_are_one.Goals as goal

pub returns : goal.returns
returns c = faults_are_one c.read_bits_are_meant.ensures
