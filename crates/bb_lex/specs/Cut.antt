-- How a text is cut into pieces, its tokens with their places, and the place where a text goes wrong. The cut is a
-- property of the whole text: the pieces joined are the text, and each is the longest that begins at its place.
use Rattle.std.specs.Prelude.{◌≡◌, ℕ, ◌+◌, ◌≤◌, ◌<◌, ◌==◌, Option, Some, None, List, [], ◌∷◌, ◌++◌, length, count_by, slice_range, drop}
use Rattle.bb_lex.specs.declared.token.Kind.{Kind}
use Rattle.bb_lex.specs.declared.token.Token.{Token}
use Rattle.bb_lex.specs.Bytes.{newline}
use Rattle.bb_lex.specs.Pieces.{Piece, IsPiece, IsToken}

-- a piece at the start of these bytes, no longer one begins there
pub record IsLongest (piece : Piece) (after : List ℕ) : Type 0 where
  pub is : IsPiece piece after
  pub longest : (other : Piece) (rest : List ℕ) → piece.bytes ++ after ≡ other.bytes ++ rest → IsPiece other rest → length other.bytes ≤ length piece.bytes

-- the text is these pieces, each the longest at its place, and then a rest
abbrev pub IsCutUpTo : List ℕ → List Piece → List ℕ → Type 0
IsCutUpTo text [] rest = text ≡ rest
IsCutUpTo text (piece ∷ pieces) rest = (after : List ℕ) × (text ≡ piece.bytes ++ after) × IsLongest piece after × IsCutUpTo after pieces rest

-- the whole text is these pieces
abbrev pub IsCut : List ℕ → List Piece → Type 0
IsCut text pieces = IsCutUpTo text pieces []

-- the line of the byte after these: 1 and the number of newlines among them
abbrev pub line_after : List ℕ → ℕ
line_after prefix = 1 + count_by (λ b. b == newline) prefix

-- the token of a piece, if front are the bytes of the text before it
abbrev pub token_at : List ℕ → List ℕ → Kind → Token
token_at prefix bytes kind = record { kind = kind; start = length prefix; «end» = length prefix + length bytes; line = line_after prefix }

-- the token of a piece, if it is one, before other tokens; front are the bytes of the text before it
abbrev pub with_token : List ℕ → List ℕ → Option Kind → List Token → List Token
with_token prefix bytes None tokens = tokens
with_token prefix bytes (Some kind) tokens = token_at prefix bytes kind ∷ tokens

abbrev pub tokens_after : List ℕ → List Piece → List Token
tokens_after prefix [] = []
tokens_after prefix (piece ∷ pieces) = with_token prefix piece.bytes piece.kind (tokens_after (prefix ++ piece.bytes) pieces)

-- these are the tokens of the text
pub record AreTokens (text : List ℕ) (tokens : List Token) : Type 0 where
  pub pieces : List Piece
  pub cut : IsCut text pieces
  pub are : tokens ≡ tokens_after [] pieces

-- the text goes wrong after these bytes: they are cut, and at the rest, which is not empty, no piece begins
pub record IsBadAfter (text prefix : List ℕ) : Type 0 where
  pub pieces : List Piece
  pub rest : List ℕ
  pub splits : text ≡ prefix ++ rest
  pub cut : IsCutUpTo text pieces rest
  pub more : 0 < length rest
  pub none : (piece : Piece) (after : List ℕ) → rest ≡ piece.bytes ++ after → IsPiece piece after → ⊥

-- the text goes wrong on a line
pub record IsBadOn (text : List ℕ) (line : ℕ) : Type 0 where
  pub prefix : List ℕ
  pub bad : IsBadAfter text prefix
  pub on : line ≡ line_after prefix

-- the bytes of a token
abbrev pub bytes_of : Token → List ℕ → List ℕ
bytes_of token text = slice_range text token.start token.«end»

-- a token that could be in that text: its span lies in it, and its bytes are a token of its kind before what follows
-- them; whether the cut of the text has it is for AreTokens to say
pub record IsTokenOf (token : Token) (text : List ℕ) : Type 0 where
  pub in_order : token.start ≤ token.«end»
  pub within : token.«end» ≤ length text
  pub is : IsToken token.kind (bytes_of token text) (drop token.«end» text)

-- a token ends before another begins, and is on no later line
abbrev pub IsBefore : Token → Token → Type 0
IsBefore a b = (a.«end» ≤ b.start) × (a.line ≤ b.line)
