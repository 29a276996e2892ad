use Rattle.bb_verdict.proofs.FollowLaws.{no_tables_follow}
use Rattle.bb_verdict.proofs.text_laws.no_tables_follow.Goals as goal

pub returns : goal.returns
returns c = no_tables_follow
