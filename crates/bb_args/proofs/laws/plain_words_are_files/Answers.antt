use Rattle.bb_args.proofs.PlainLemmas.{plain_words}
use Rattle.bb_args.proofs.laws.plain_words_are_files.Goals as goal

pub returns : goal.returns
returns c = plain_words
