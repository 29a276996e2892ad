-- the laws of truth tables, as the lemmas of stores take them
use Rattle.bb_bits.specs.Laws.TruthLaws.{TableLaws, BeadLaws, SizeLaws}

pub record Given : Type 0 where
  pub tables : TableLaws
  pub beads : BeadLaws
  pub sizes : SizeLaws
