use Rattle.bb_args.proofs.PlainLemmas.{refused_words}
use Rattle.bb_args.proofs.laws.some_words_are_refused.Goals as goal

pub returns : goal.returns
returns c = refused_words
