use Rattle.bb_cdcl.proofs.Backjumps.{covered_further}
use Rattle.bb_cdcl.proofs.backjumping.decision_after.Goals as goal

pub returns-then-back-place : goal.returns-then-back-place
returns-then-back-place c lits covered = c.nearest.ensures lits c.args.place (covered_further _ _ _ _ _ c.if-prefix-back.true c.if-back-place.true covered) tt
