use Rattle.bb_args.proofs.PlainLemmas.{joined_values}
use Rattle.bb_args.proofs.laws.values_may_be_joined.Goals as goal

pub returns : goal.returns
returns c = joined_values
