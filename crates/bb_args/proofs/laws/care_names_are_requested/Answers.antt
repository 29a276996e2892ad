use Rattle.bb_args.proofs.PlainLemmas.{care_names}
use Rattle.bb_args.proofs.laws.care_names_are_requested.Goals as goal

pub returns : goal.returns
returns c = care_names
