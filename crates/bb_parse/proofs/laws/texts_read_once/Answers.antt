use Rattle.bb_parse.proofs.ReadLaws.{texts_read_once}
use Rattle.bb_parse.proofs.laws.texts_read_once.Goals as goal

pub returns : goal.returns
returns c = texts_read_once c.read_bits_are_meant.ensures c.tokens_are_one.ensures
