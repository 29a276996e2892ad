use Rattle.bb_parse.proofs.ReadLaws.{source_or_fault}
use Rattle.bb_parse.proofs.laws.source_or_fault.Goals as goal

pub returns : goal.returns
returns c = source_or_fault c.read_bits_are_meant.ensures c.tokens_are_in_text.ensures
