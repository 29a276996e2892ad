use Rattle.bb_args.proofs.PlainLemmas.{invariant_names}
use Rattle.bb_args.proofs.laws.invariant_names_are_requested.Goals as goal

pub returns : goal.returns
returns c = invariant_names
