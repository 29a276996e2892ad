-- the laws of tables, stores and bits, as the lemmas here take them
use Rattle.bb_bits.specs.Laws.TruthLaws.{TableLaws, BeadLaws, SizeLaws}
use Rattle.bb_strash.specs.Laws.{BitsAreGates, BitsStay}
use Rattle.bb_uniq.specs.Laws.{StoreLaws, StepLaws}

pub record Given : Type 0 where
  pub tables : TableLaws
  pub beads : BeadLaws
  pub sizes : SizeLaws
  pub stores : StoreLaws
  pub steps : StepLaws
  pub gates : BitsAreGates
  pub stay : BitsStay
