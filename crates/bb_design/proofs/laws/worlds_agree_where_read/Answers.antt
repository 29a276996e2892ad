use Rattle.bb_design.proofs.WorldLaws.{worlds_agree_where_read}
use Rattle.bb_design.proofs.laws.worlds_agree_where_read.Goals as goal

pub returns : goal.returns
returns c = worlds_agree_where_read c.read_needs_read.ensures
