use Rattle.bb_fill.proofs.LinesOccur.{lines_read_what_is_driven}
use Rattle.bb_fill.proofs.laws.lines_read_what_is_driven.Goals as goal

pub returns : goal.returns
returns c = lines_read_what_is_driven
