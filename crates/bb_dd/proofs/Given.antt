-- the laws of tables and stores, as the lemmas here take them
use Rattle.bb_bits.specs.Laws.TruthLaws.{TableLaws}
use Rattle.bb_uniq.specs.Laws.{StoreLaws, GrowthLaws, StepLaws}

pub record Given : Type 0 where
  pub tables : TableLaws
  pub stores : StoreLaws
  pub growth : GrowthLaws
  pub steps : StepLaws
