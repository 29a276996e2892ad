use Rattle.bb_args.proofs.WithinLemmas.{requests_within}
use Rattle.bb_args.proofs.laws.requests_are_within.Goals as goal

pub returns : goal.returns
returns c = requests_within
