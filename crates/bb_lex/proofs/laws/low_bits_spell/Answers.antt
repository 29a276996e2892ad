use Rattle.bb_lex.proofs.LawProofs.{low_bits_spell}
use Rattle.bb_lex.proofs.laws.low_bits_spell.Goals as goal

pub returns : goal.returns
returns c = low_bits_spell
