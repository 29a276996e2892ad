use Rattle.bb_args.proofs.OnceLemmas.{words_once}
use Rattle.bb_args.proofs.laws.words_request_once.Goals as goal

pub returns : goal.returns
returns c = words_once
