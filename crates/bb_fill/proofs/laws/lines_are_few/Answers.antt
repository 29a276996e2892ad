use Rattle.bb_fill.proofs.LineCounts.{lines_are_few}
use Rattle.bb_fill.proofs.laws.lines_are_few.Goals as goal

pub returns : goal.returns
returns c = lines_are_few
