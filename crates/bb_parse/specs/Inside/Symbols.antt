-- The symbols of tokens, read from their bytes.
use Rattle.std.specs.Prelude.{ℕ, Bool, false, List, [], ◌∷◌, Option, Some, None, ◌==◌, map}
use Rattle.bb_lex.specs.declared.mark.Mark.{Mark}
use Rattle.bb_lex.specs.declared.mark.Mark.TheVariants.{LeftRound, RightRound, LeftSquare, RightSquare, LeftBrace, RightBrace, Comma, Semicolon, Colon, Dot, Equals, At, Amp, Bar, Caret, Tilde, Query, Plus, Minus, Less, Greater, Bang, LessEqual, GreaterEqual, EqualEqual, BangEqual, LessLess, GreaterGreater, AmpAmp, BarBar, TildeAmp, TildeBar, TildeCaret, CaretTilde}
use Rattle.bb_lex.specs.declared.token.Kind.{Kind}
use Rattle.bb_lex.specs.declared.token.Token.{Token}
use Rattle.bb_lex.specs.Meaning.{name_of, plain_value_of}
use Rattle.bb_lex.specs.Inside.Numbers.{sized_bits_of}
use Rattle.bb_parse.specs.Symbols.{Symbol, Identifier, Reserved, SizedNumber, PlainNumber, Sign}
use Rattle.bb_lex.specs.declared.token.Kind.TheVariants as kinds

-- the symbol of a token, read from its bytes
abbrev pub symbol_by : List ℕ → Token → Kind → Symbol
symbol_by text token kinds.Name = Identifier (name_of token text)
symbol_by text token (kinds.Word word) = Reserved word
symbol_by text token kinds.Sized = SizedNumber (sized_bits_of token text)
symbol_by text token kinds.Plain = PlainNumber (plain_value_of token text)
symbol_by text token (kinds.Mark mark) = Sign mark

abbrev pub symbol : List ℕ → Token → Symbol
symbol text token = symbol_by text token token.kind

abbrev pub symbols : List ℕ → List Token → List Symbol
symbols text tokens = map (symbol text) tokens

abbrev pub mark_number : Mark → ℕ
mark_number LeftRound = 0
mark_number RightRound = 1
mark_number LeftSquare = 2
mark_number RightSquare = 3
mark_number LeftBrace = 4
mark_number RightBrace = 5
mark_number Comma = 6
mark_number Semicolon = 7
mark_number Colon = 8
mark_number Dot = 9
mark_number Equals = 10
mark_number At = 11
mark_number Amp = 12
mark_number Bar = 13
mark_number Caret = 14
mark_number Tilde = 15
mark_number Query = 16
mark_number Plus = 17
mark_number Minus = 18
mark_number Less = 19
mark_number Greater = 20
mark_number Bang = 21
mark_number LessEqual = 22
mark_number GreaterEqual = 23
mark_number EqualEqual = 24
mark_number BangEqual = 25
mark_number LessLess = 26
mark_number GreaterGreater = 27
mark_number AmpAmp = 28
mark_number BarBar = 29
mark_number TildeAmp = 30
mark_number TildeBar = 31
mark_number TildeCaret = 32
mark_number CaretTilde = 33

-- the mark is next
abbrev pub is_next : Mark → List Symbol → Bool
is_next mark [] = false
is_next mark (Identifier n ∷ ts) = false
is_next mark (Reserved w ∷ ts) = false
is_next mark (SizedNumber b ∷ ts) = false
is_next mark (PlainNumber n ∷ ts) = false
is_next mark (Sign m ∷ ts) = mark_number m == mark_number mark

abbrev pub after : List Symbol → List Symbol
after [] = []
after (t ∷ ts) = ts

-- what kind of symbol comes next
abbrev pub next_kind : List Symbol → Option Kind
next_kind [] = None
next_kind (Identifier n ∷ ts) = Some kinds.Name
next_kind (Reserved w ∷ ts) = Some (kinds.Word w)
next_kind (SizedNumber b ∷ ts) = Some kinds.Sized
next_kind (PlainNumber n ∷ ts) = Some kinds.Plain
next_kind (Sign m ∷ ts) = Some (kinds.Mark m)
