use Rattle.bb_args.proofs.PlainLemmas.{files_after}
use Rattle.bb_args.proofs.laws.all_are_files_after.Goals as goal

pub returns : goal.returns
returns c = files_after
