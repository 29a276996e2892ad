use Rattle.bb_match.proofs.RefusalLaws.{causes_are_ranked}
use Rattle.bb_match.proofs.laws.causes_are_ranked.Goals as goal

pub returns : goal.returns
returns c = causes_are_ranked
