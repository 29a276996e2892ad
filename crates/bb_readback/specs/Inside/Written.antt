-- The pieces of a filled text: names, reserved words, the two numbers of one bit, marks and white space. Each is one
-- piece of a text only before certain bytes: a word would go on with a byte of its class, and some marks with another
-- mark.
use Rattle.std.specs.Prelude.{◌≡◌, ℕ, ◌||◌, ◌==◌, Bool, if◌then◌else◌, Option, Some, None, List, [], ◌∷◌, ◌++◌, codes}
use Rattle.std.specs.List.{flat_map}
use Rattle.bb_bits.specs.Names.{IsPrintable}
use Rattle.bb_lex.specs.declared.keyword.Keyword.{Keyword}
use Rattle.bb_lex.specs.declared.mark.Mark.{Mark}
use Rattle.bb_lex.specs.declared.mark.Mark.TheVariants.{LeftRound, Equals, Bang, Less, Greater, Amp, Bar, Caret, Tilde}
use Rattle.bb_lex.specs.declared.token.Kind.{Kind}
use Rattle.bb_lex.specs.declared.token.Kind.TheVariants as kinds
use Rattle.bb_lex.specs.Bytes.{newline, space, star, backslash, is_white, is_identifier_byte, is_word_byte, BeginsNot, EndsBefore}
use Rattle.bb_lex.specs.Pieces.{Piece, IsIdentifier, written}
use Rattle.bb_lex.specs.Words.{keyword_of}

pub data Written : Type 0 where
  -- an escaped name, by the bytes after its backslash
  EscapedName : List ℕ → Written
  -- a simple identifier
  SimpleName : List ℕ → Written
  -- a reserved word, by its bytes
  ReservedWord : List ℕ → Keyword → Written
  -- a number of one bit
  BitNumber : Bool → Written
  OneMark : Mark → Written
  -- a blank and a line feed
  Blank : Written
  Feed : Written

-- its bytes
abbrev pub spelled : Written → List ℕ
spelled (EscapedName name) = backslash ∷ name
spelled (SimpleName bytes) = bytes
spelled (ReservedWord bytes keyword) = bytes
spelled (BitNumber b) = if b then codes "1'b1" else codes "1'b0"
spelled (OneMark mark) = written mark
spelled Blank = space ∷ []
spelled Feed = newline ∷ []

abbrev pub spelling : List Written → List ℕ
spelling ws = flat_map spelled ws

-- the kind of its token; white space is none
abbrev pub kind_of : Written → Option Kind
kind_of (EscapedName name) = Some kinds.Name
kind_of (SimpleName bytes) = Some kinds.Name
kind_of (ReservedWord bytes keyword) = Some (kinds.Word keyword)
kind_of (BitNumber b) = Some kinds.Sized
kind_of (OneMark mark) = Some (kinds.Mark mark)
kind_of Blank = None
kind_of Feed = None

abbrev pub piece_of : Written → Piece
piece_of w = record { kind = kind_of w; bytes = spelled w }

-- a mark that is no part of a longer one, and opens no attribute, where these bytes follow it; & is 38, < = > are 60 to 62, ^ is 94,
-- | is 124 and ~ is 126
abbrev pub IsApart : Mark → List ℕ → Type 0
IsApart LeftRound after = BeginsNot (λ b. b == star) after
IsApart Equals after = BeginsNot (λ b. b == 61) after
IsApart Bang after = BeginsNot (λ b. b == 61) after
IsApart Less after = BeginsNot (λ b. b == 60 || b == 61) after
IsApart Greater after = BeginsNot (λ b. b == 61 || b == 62) after
IsApart Amp after = BeginsNot (λ b. b == 38) after
IsApart Bar after = BeginsNot (λ b. b == 124) after
IsApart Caret after = BeginsNot (λ b. b == 126) after
IsApart Tilde after = BeginsNot (λ b. b == 38 || (b == 94 || b == 124)) after
IsApart mark after = Unit {0}

-- it is a piece where these bytes follow it
abbrev pub Fits : Written → List ℕ → Type 0
Fits (EscapedName name) after = IsPrintable name × EndsBefore is_white after
Fits (SimpleName bytes) after = IsIdentifier bytes × (keyword_of bytes ≡ None) × BeginsNot is_identifier_byte after
Fits (ReservedWord bytes keyword) after = IsIdentifier bytes × (keyword_of bytes ≡ Some keyword) × BeginsNot is_identifier_byte after
Fits (BitNumber b) after = BeginsNot is_word_byte after
Fits (OneMark mark) after = IsApart mark after
Fits Blank after = Unit {0}
Fits Feed after = Unit {0}

-- each is a piece where it is, and then these bytes follow
abbrev pub AreFit : List Written → List ℕ → Type 0
AreFit [] after = Unit {0}
AreFit (w ∷ ws) after = Fits w (spelling ws ++ after) × AreFit ws after
