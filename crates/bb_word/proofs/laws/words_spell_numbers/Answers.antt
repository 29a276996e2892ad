use Rattle.std.proofs.Common.{sym, ◌∙◌}
use Rattle.std.proofs.Math.Path.{ap₂}
use Rattle.bb_bits.specs.Numbers.{bits_of}
use Rattle.bb_word.specs.Laws.Numbers.{word_result}
use Rattle.bb_word.proofs.WordLemmas.{word_is, word_long}
use Rattle.bb_word.proofs.laws.words_spell_numbers.Goals as goal

pub returns-clause-numbers : goal.returns-clause-numbers
returns-clause-numbers c = word_is c.number_doubles.ensures

pub returns-clause-bits : goal.returns-clause-bits
returns-clause-bits c op a b one =
    sym (c.number_spelled_once.ensures (word_result op a b)) ∙ ap₂ bits_of (word_long c.number_doubles.ensures op a b one) (word_is c.number_doubles.ensures op a b one)

pub returns-clause-widths : goal.returns-clause-widths
returns-clause-widths c = word_long c.number_doubles.ensures
