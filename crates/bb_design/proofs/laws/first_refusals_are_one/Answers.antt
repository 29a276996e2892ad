use Rattle.bb_design.proofs.RefusalLaws.{first_refusals_are_one}
use Rattle.bb_design.proofs.laws.first_refusals_are_one.Goals as goal

pub returns : goal.returns
returns c = first_refusals_are_one
