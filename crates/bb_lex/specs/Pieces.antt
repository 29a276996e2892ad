-- The tokens (IEEE 1364-2005, 3.4, 3.5, 3.7 and annex B): what a run of bytes must be, and what may follow it, to be a token of a kind.
use Rattle.std.specs.Prelude.{◌≡◌, ℕ, ◌<◌, ◌≤◌, ◌^◌, ◌||◌, ◌==◌, true, Option, Some, None, List, [], ◌∷◌, ◌++◌, length, codes, MatchOption}
use Rattle.std.specs.Char.{is_ascii_digit, is_digit}
use Rattle.bb_lex.specs.declared.token.Kind.{Kind}
use Rattle.bb_lex.specs.declared.token.Kind.TheVariants.{Name, Word, Sized, Plain, Mark as MarkKind}
use Rattle.bb_lex.specs.declared.mark.Mark.{Mark}
use Rattle.bb_lex.specs.declared.mark.Mark.TheVariants.{LeftRound, RightRound, LeftSquare, RightSquare, LeftBrace, RightBrace, Comma, Semicolon, Colon, Dot, Equals, At, Amp, Bar, Caret, Tilde, Query, Plus, Minus, Less, Greater, Bang, LessEqual, GreaterEqual, EqualEqual, BangEqual, LessLess, GreaterGreater, AmpAmp, BarBar, TildeAmp, TildeBar, TildeCaret, CaretTilde}
use Rattle.bb_lex.specs.Bytes.{apostrophe, star, backslash, underscore, is_apostrophe, is_white, begins_identifier, is_identifier_byte, is_word_byte, is_decimal_byte, is_graphic, Each, BeginsNot, EndsBefore, past}
use Rattle.bb_lex.specs.Numbers.{number, radix_of}
use Rattle.bb_lex.specs.Skips.{IsSkip}
use Rattle.bb_lex.specs.Words.{keyword_of}
use Rattle.bb_lex.specs.declared.keyword.Keyword.{Keyword}

-- how a mark is written
abbrev pub written : Mark → List ℕ
written LeftRound = codes "("
written RightRound = codes ")"
written LeftSquare = codes "["
written RightSquare = codes "]"
written LeftBrace = codes "{"
written RightBrace = codes "}"
written Comma = codes ","
written Semicolon = codes ";"
written Colon = codes ":"
written Dot = codes "."
written Equals = codes "="
written At = codes "@"
written Amp = codes "&"
written Bar = codes "|"
written Caret = codes "^"
written Tilde = codes "~"
written Query = codes "?"
written Plus = codes "+"
written Minus = codes "-"
written Less = codes "<"
written Greater = codes ">"
written Bang = codes "!"
written LessEqual = codes "<="
written GreaterEqual = codes ">="
written EqualEqual = codes "=="
written BangEqual = codes "!="
written LessLess = codes "<<"
written GreaterGreater = codes ">>"
written AmpAmp = codes "&&"
written BarBar = codes "||"
written TildeAmp = codes "~&"
written TildeBar = codes "~|"
written TildeCaret = codes "~^"
written CaretTilde = codes "^~"

-- a letter or _, and then letters, digits, _ and $
abbrev pub IsIdentifier : List ℕ → Type 0
IsIdentifier [] = ⊥
IsIdentifier (b ∷ bytes) = (begins_identifier b ≡ true) × Each is_identifier_byte bytes

-- the kind of a simple identifier: a reserved word, or else a name
abbrev pub kind_of_word : Option Keyword → Kind
kind_of_word None = Name
kind_of_word (Some keyword) = Word keyword

-- a digit, and then digits and _
abbrev pub IsDecimalRun : List ℕ → Type 0
IsDecimalRun [] = ⊥
IsDecimalRun (b ∷ bytes) = (is_ascii_digit b ≡ true) × Each is_decimal_byte bytes

-- a run of digits of a radix and _ that begins with a digit
abbrev pub IsDigitRun : ℕ → List ℕ → Type 0
IsDigitRun radix [] = ⊥
IsDigitRun radix (b ∷ bytes) = (is_digit b radix ≡ true) × Each (λ c. is_digit c radix || c == underscore) bytes

-- a size, an apostrophe, a base letter and digits of that base, as 4'b10_01; white space may come before the apostrophe
-- and after the base letter; a decimal value is below 2 ^ 128
pub record IsSized (bytes after : List ℕ) : Type 0 where
  pub size : List ℕ
  pub gap : List ℕ
  pub letter : ℕ
  pub space : List ℕ
  pub digits : List ℕ
  pub made_of : bytes ≡ size ++ (gap ++ apostrophe ∷ letter ∷ (space ++ digits))
  pub size_run : IsDecimalRun size
  pub gap_white : Each is_white gap
  pub base : 0 < radix_of letter
  pub space_white : Each is_white space
  pub digit_run : IsDigitRun (radix_of letter) digits
  pub whole : BeginsNot is_word_byte after
  pub some_bits : 1 ≤ number 10 size
  pub at_most_128 : number 10 size ≤ 128
  pub decimal_fits : radix_of letter ≡ 10 → number 10 digits < 2 ^ 128

-- a decimal number below 2 ^ 31 that is whole and is no size
pub record IsPlain (bytes after : List ℕ) : Type 0 where
  pub run : IsDecimalRun bytes
  pub whole : BeginsNot is_decimal_byte after
  pub no_size : BeginsNot is_apostrophe (past is_white after)
  pub fits : number 10 bytes < 2 ^ 31

-- a backslash and then bytes from 33 to 126, up to white space or the end of the text
pub record IsEscaped (bytes after : List ℕ) : Type 0 where
  pub name : List ℕ
  pub opens : bytes ≡ backslash ∷ name
  pub some : 0 < length name
  pub graphic : Each is_graphic name
  pub whole : EndsBefore is_white after

-- a token of a kind, if after are the bytes that follow
pub data IsToken (kind : Kind) (bytes after : List ℕ) : Type 0 where
  Identifier : IsIdentifier bytes → kind ≡ kind_of_word (keyword_of bytes) → IsToken kind bytes after
  Escaped : IsEscaped bytes after → kind ≡ Name → IsToken kind bytes after
  SizedNumber : IsSized bytes after → kind ≡ Sized → IsToken kind bytes after
  PlainNumber : IsPlain bytes after → kind ≡ Plain → IsToken kind bytes after
  -- ( with * after it would open an attribute
  Symbol : (mark : Mark) → bytes ≡ written mark → (mark ≡ LeftRound → BeginsNot (λ b. b == star) after) → kind ≡ MarkKind mark → IsToken kind bytes after

-- a run of bytes with the kind of the token that it is, or none where it is skipped
pub record Piece : Type 0 where
  pub kind : Option Kind
  pub bytes : List ℕ

-- a skip or a token by one of the cases, if after are the bytes that follow
abbrev pub IsPiece : Piece → List ℕ → Type 0
IsPiece piece after = MatchOption piece.kind (IsSkip piece.bytes after) (λ kind. IsToken kind piece.bytes after)
