use Rattle.bb_parse.proofs.ReadLaws.{not_source_and_fault}
use Rattle.bb_parse.proofs.laws.not_source_and_fault.Goals as goal

pub returns : goal.returns
returns c = not_source_and_fault c.read_bits_are_meant.ensures
