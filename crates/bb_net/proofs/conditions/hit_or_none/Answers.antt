use Rattle.bb_net.proofs.ConditionLaws.{first_hit_or_none}
use Rattle.bb_net.proofs.conditions.hit_or_none.Goals as goal

pub returns : goal.returns
returns c = first_hit_or_none
