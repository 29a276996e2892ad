-- Laws of cuts, of token lists and of numbers, which a reader expects of the definitions.
use Rattle.std.specs.Prelude.{◌≡◌, ◌⊎◌, ℕ, ◌%◌, ◌^◌, ◌<◌, ◌≤◌, Bool, Option, Some, None, List, [], ◌∷◌, ◌++◌, length, map, All, slice_index_or}
use Rattle.std.specs.List.{AllPairs}
use Rattle.bb_lex.specs.declared.token.Kind.{Kind}
use Rattle.bb_lex.specs.declared.token.Kind.TheVariants.{Sized, Plain}
use Rattle.bb_lex.specs.declared.token.Token.{Token}
use Rattle.bb_lex.specs.Bytes.{is_graphic, Each}
use Rattle.bb_lex.specs.Pieces.{Piece, IsPiece}
use Rattle.bb_lex.specs.Skips.{EndsAtFirst}
use Rattle.bb_lex.specs.Cut.{IsLongest, IsCut, AreTokens, IsBadAfter, IsBadOn, IsTokenOf, IsBefore}
use Rattle.bb_lex.specs.Meaning.{name_of, IsNameOrWord, MeansBits, plain_value_of}
use Rattle.bb_lex.specs.Inside.Numbers.{sized_bits_of}
use Rattle.bb_lex.specs.Inside.Pieces.{piece_at}
use Rattle.bb_lex.specs.Numbers.{spelled, weighted_bits, bit_value}

-- a text is cut in one way, and so has one list of tokens
abbrev pub CutsAreOne : Type 0
CutsAreOne = (text : List ℕ) (pieces others : List Piece) → IsCut text pieces → IsCut text others → pieces ≡ others

abbrev pub TokensAreOne : Type 0
TokensAreOne = (text : List ℕ) (tokens others : List Token) → AreTokens text tokens → AreTokens text others → tokens ≡ others

-- a text goes wrong at one place, and so on one line
abbrev pub BadPlacesAreOne : Type 0
BadPlacesAreOne = (text prefix other : List ℕ) → IsBadAfter text prefix → IsBadAfter text other → prefix ≡ other

abbrev pub BadLinesAreOne : Type 0
BadLinesAreOne = (text : List ℕ) (line other : ℕ) → IsBadOn text line → IsBadOn text other → line ≡ other

-- a text is cut or goes wrong, and not both
abbrev pub CutOrBad : Type 0
CutOrBad = (text : List ℕ) → ((pieces : List Piece) × IsCut text pieces) ⊎ ((prefix : List ℕ) × IsBadAfter text prefix)

abbrev pub NotBoth : Type 0
NotBoth = (text prefix : List ℕ) (pieces : List Piece) → IsCut text pieces → IsBadAfter text prefix → ⊥

-- it has tokens or goes wrong on a line, and not both
abbrev pub TokensOrBadLine : Type 0
TokensOrBadLine = (text : List ℕ) → ((tokens : List Token) × AreTokens text tokens) ⊎ ((line : ℕ) × IsBadOn text line)

abbrev pub NotTokensAndBadLine : Type 0
NotTokensAndBadLine = (text : List ℕ) (tokens : List Token) (line : ℕ) → AreTokens text tokens → IsBadOn text line → ⊥

-- each token of a text is one at its place
abbrev pub TokensAreInText : Type 0
TokensAreInText = (text : List ℕ) (tokens : List Token) → AreTokens text tokens → All (λ token. IsTokenOf token text) tokens

-- spans rise, and lines do not fall
abbrev pub TokensRise : Type 0
TokensRise = (text : List ℕ) (tokens : List Token) → AreTokens text tokens → AllPairs IsBefore tokens

-- a token ends after more bytes than tokens come before it
abbrev pub TokensEndPastTheirPlaces : Type 0
TokensEndPastTheirPlaces = (text : List ℕ) (tokens : List Token) → AreTokens text tokens → (i : ℕ) (d : Token) → i < length tokens → i < (slice_index_or tokens i d).«end»

-- so a text has no more tokens than bytes
abbrev pub TokensAreFew : Type 0
TokensAreFew = (text : List ℕ) (tokens : List Token) → AreTokens text tokens → length tokens ≤ length text

-- a name, as well as a reserved word, is one or more of the bytes 33 to 126
abbrev pub NamesArePrintable : Type 0
NamesArePrintable = (token : Token) (text : List ℕ) → IsTokenOf token text → IsNameOrWord token.kind → (0 < length (name_of token text)) × Each is_graphic (name_of token text)

-- a sized number says one list of bits
abbrev pub SizedTokensSayBits : Type 0
SizedTokensSayBits = (token : Token) (text : List ℕ) → IsTokenOf token text → token.kind ≡ Sized → (bits : List Bool) × MeansBits token text bits

abbrev pub SizedBitsAreOne : Type 0
SizedBitsAreOne = (token : Token) (text : List ℕ) (bits others : List Bool) → MeansBits token text bits → MeansBits token text others → bits ≡ others

-- of 1 to 128 bits
abbrev pub SizedBitsFit : Type 0
SizedBitsFit = (token : Token) (text : List ℕ) (bits : List Bool) → MeansBits token text bits → (1 ≤ length bits) × (length bits ≤ 128)

-- a plain number is below 2 ^ 31
abbrev pub PlainValuesFit : Type 0
PlainValuesFit = (token : Token) (text : List ℕ) → IsTokenOf token text → token.kind ≡ Plain → plain_value_of token text < 2 ^ 31

-- what sized_bits_of computes from the bytes of a sized number is what that says
abbrev pub ReadBitsAreMeant : Type 0
ReadBitsAreMeant = (token : Token) (text : List ℕ)
    → (IsTokenOf token text → token.kind ≡ Sized → MeansBits token text (sized_bits_of token text))
    × ((bits : List Bool) → MeansBits token text bits → bits ≡ sized_bits_of token text)

-- what piece_at computes is the longest piece at the start of a text, and none where none begins
abbrev pub ReadPiecesAreLongest : Type 0
ReadPiecesAreLongest = (text rest : List ℕ) (kind : Option Kind) → piece_at text ≡ Some (kind, rest)
    → (bytes : List ℕ) × (text ≡ bytes ++ rest) × IsLongest (record { kind = kind; bytes = bytes }) rest

abbrev pub LongestPiecesAreRead : Type 0
LongestPiecesAreRead = (piece : Piece) (after : List ℕ) → IsLongest piece after → piece_at (piece.bytes ++ after) ≡ Some (piece.kind, after)

abbrev pub NoneIsReadWhereNoneBegins : Type 0
NoneIsReadWhereNoneBegins = (text : List ℕ)
    → (piece_at text ≡ None → (piece : Piece) (after : List ℕ) → text ≡ piece.bytes ++ after → IsPiece piece after → ⊥)
    × (((piece : Piece) (after : List ℕ) → text ≡ piece.bytes ++ after → IsPiece piece after → ⊥) → piece_at text ≡ None)

-- the low n bits of a number spell it modulo 2 ^ n
abbrev pub LowBitsSpell : Type 0
LowBitsSpell = (n value : ℕ) → (length (weighted_bits n value) ≡ n) × (spelled 2 (map bit_value (weighted_bits n value)) ≡ value % 2 ^ n)

-- what ends at the first place of two bytes ends with them, and they are side by side nowhere before
abbrev pub EndsAtFirstPlace : Type 0
EndsAtFirstPlace = (x y : ℕ) (bytes : List ℕ) → EndsAtFirst x y bytes →
    ((body : List ℕ) × (bytes ≡ body ++ x ∷ y ∷ []))
    × ((prefix back : List ℕ) → bytes ≡ prefix ++ x ∷ y ∷ back → back ≡ [])
