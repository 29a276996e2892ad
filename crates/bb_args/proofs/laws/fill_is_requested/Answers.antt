use Rattle.bb_args.proofs.PlainLemmas.{fill_is_requested}
use Rattle.bb_args.proofs.laws.fill_is_requested.Goals as goal

pub returns : goal.returns
returns c = fill_is_requested
