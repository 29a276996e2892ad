use Rattle.bb_design.proofs.NamedTops.{tops_are_meant}
use Rattle.bb_design.proofs.laws.tops_are_meant.Goals as goal

pub returns : goal.returns
returns c = tops_are_meant
