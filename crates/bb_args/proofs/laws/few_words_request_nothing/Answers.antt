use Rattle.bb_args.proofs.PlainLemmas.{few_words}
use Rattle.bb_args.proofs.laws.few_words_request_nothing.Goals as goal

pub returns : goal.returns
returns c = few_words
