use Rattle.std.proofs.Common.{subst}
use Rattle.bb_bits.specs.TruthSets.{HasSize}
use Rattle.bb_uniq.specs.Inside.Meaning.{IsHeld}
use Rattle.bb_dd.specs.Inside.State.{DiagramState}
use Rattle.bb_dd.proofs.diagrams.Diagrams.len.Goals as goal

pub returns-clause-beads : goal.returns-clause-beads
returns-clause-beads c = subst (λ (d : DiagramState). HasSize (IsHeld d.store) c.len.result) c.self.view_is c.len.ensures.beads
