use Rattle.bb_args.proofs.PlainLemmas.{widths}
use Rattle.bb_args.proofs.laws.widths_request_pairs.Goals as goal

pub returns : goal.returns
returns c = widths
