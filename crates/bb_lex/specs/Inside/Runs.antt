-- Runs of bytes of a class.
use Rattle.std.specs.Prelude.{ℕ, Bool, List, [], ◌∷◌, not, ◌==◌, if◌then◌else◌}
use Rattle.bb_lex.specs.declared.class.Class.{Class}
use Rattle.bb_lex.specs.Bytes.{is_white, is_in_line, is_identifier_byte, is_word_byte, is_decimal_byte, is_graphic}
use Rattle.bb_lex.specs.declared.class.Class.TheVariants as class

-- the longest run of a class of bytes at the start
abbrev pub run_of : (ℕ → Bool) → List ℕ → List ℕ
run_of is [] = []
run_of is (b ∷ bytes) = if is b then b ∷ run_of is bytes else []

-- the bytes before an apostrophe: every byte but that
abbrev pub is_no_apostrophe : ℕ → Bool
is_no_apostrophe b = not (b == 39)

-- the test of a class of bytes
abbrev pub is_of : Class → ℕ → Bool
is_of class.White = is_white
is_of class.InLine = is_in_line
is_of class.Identifier = is_identifier_byte
is_of class.Word = is_word_byte
is_of class.Decimal = is_decimal_byte
is_of class.Graphic = is_graphic
is_of class.NoApostrophe = is_no_apostrophe
