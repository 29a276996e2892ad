use Rattle.bb_design.proofs.ReadingLaw.{read_needs_read}
use Rattle.bb_design.proofs.laws.read_needs_read.Goals as goal

pub returns : goal.returns
returns c = read_needs_read
