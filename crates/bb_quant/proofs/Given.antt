-- the laws of tables and stores, as the lemmas here take them
use Rattle.std.specs.Prelude.{◌<◌, ◌^◌, Bool, List, length}
use Rattle.bb_bits.specs.Numbers.{number_of}
use Rattle.bb_bits.specs.Laws.TruthLaws.{TableLaws, QuantifierLaws}
use Rattle.bb_uniq.specs.Laws.{StoreLaws, GrowthLaws, StepLaws}

pub record Given : Type 0 where
  pub tables : TableLaws
  pub quantifiers : QuantifierLaws
  pub stores : StoreLaws
  pub growth : GrowthLaws
  pub steps : StepLaws

-- bits spell a number below that power of two
abbrev pub NumbersAreBelow : Type 0
NumbersAreBelow = (bits : List Bool) → number_of bits < 2 ^ length bits
