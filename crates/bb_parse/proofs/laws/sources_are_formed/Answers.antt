use Rattle.bb_parse.proofs.FormedLaws.{sources_are_formed}
use Rattle.bb_parse.proofs.laws.sources_are_formed.Goals as goal

pub returns : goal.returns
returns c = sources_are_formed c.names_are_printable.ensures c.sized_bits_fit.ensures c.plain_values_fit.ensures c.tokens_are_in_text.ensures
