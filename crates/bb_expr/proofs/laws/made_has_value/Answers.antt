use Rattle.bb_expr.proofs.MadeValue.{made_has_value}
use Rattle.bb_expr.proofs.laws.made_has_value.Goals as goal

pub returns : goal.returns
returns c = made_has_value (record { words = c.words_spell_numbers.ensures.bits; folds = c.folds_give_bits.ensures })
