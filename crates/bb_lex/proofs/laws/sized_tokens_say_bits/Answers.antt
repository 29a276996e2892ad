use Rattle.bb_lex.proofs.LawProofs.{sized_tokens_say_bits}
use Rattle.bb_lex.proofs.laws.sized_tokens_say_bits.Goals as goal

pub returns : goal.returns
returns c = sized_tokens_say_bits
