use Rattle.bb_cdcl.proofs.Analyzed.{backjump_here}
use Rattle.bb_cdcl.proofs.backjumping.nearest.Goals as goal

pub returns-in-None : goal.returns-in-None
returns-in-None c clause place covered before = backjump_here _ _ _ _ c.entry_at-entry.result covered c.entry_at-entry.ensures c.in-None.is
