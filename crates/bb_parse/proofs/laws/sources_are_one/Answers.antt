use Rattle.bb_parse.proofs.ReadLaws.{sources_are_one}
use Rattle.bb_parse.proofs.laws.sources_are_one.Goals as goal

pub returns : goal.returns
returns c = sources_are_one c.read_bits_are_meant.ensures
