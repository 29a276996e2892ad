use Rattle.bb_args.proofs.WithinLemmas.{made_within}
use Rattle.bb_args.proofs.laws.made_pairs_are_within.Goals as goal

pub returns : goal.returns
returns c = made_within
