use Rattle.bb_match.proofs.PairLaws.{inputs_apart, outputs_apart}
use Rattle.bb_match.proofs.laws.flat_nets_have_cuts_apart.Goals as goal

pub returns : goal.returns
returns c = λ f flat. record { inputs = inputs_apart f flat; outputs = outputs_apart f flat }
