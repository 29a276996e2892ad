-- What a token means to the layers above: a name's bytes, a sized number's bits, a plain number's value.
use Rattle.std.specs.Prelude.{◌≡◌, ℕ, ◌==◌, Bool, List, [], ◌∷◌, drop, if◌then◌else◌}
use Rattle.bb_lex.specs.declared.token.Kind.{Kind}
use Rattle.bb_lex.specs.declared.token.Kind.TheVariants.{Name, Word, Sized, Plain, Mark as MarkKind}
use Rattle.bb_lex.specs.declared.token.Token.{Token}
use Rattle.bb_lex.specs.Cut.{bytes_of}
use Rattle.bb_lex.specs.Bytes.{backslash}
use Rattle.bb_lex.specs.Numbers.{number, radix_of, weighted_bits}
use Rattle.bb_lex.specs.Pieces.{IsSized}

-- an escaped identifier counts without its backslash
abbrev pub without_backslash : List ℕ → List ℕ
without_backslash [] = []
without_backslash (b ∷ bytes) = if b == backslash then bytes else b ∷ bytes

-- the bytes of the name that a token is
abbrev pub name_of : Token → List ℕ → List ℕ
name_of token text = without_backslash (bytes_of token text)

-- the bits of a sized number, by its parts: as many as its size says, the most significant first, of the value that its
-- digits write in its radix, cut or filled with zeros on the left
pub record MeansBits (token : Token) (text : List ℕ) (bits : List Bool) : Type 0 where
  pub is : IsSized (bytes_of token text) (drop token.«end» text)
  pub are : bits ≡ weighted_bits (number 10 is.size) (number (radix_of is.letter) is.digits)

-- a plain number's value
abbrev pub plain_value_of : Token → List ℕ → ℕ
plain_value_of token text = number 10 (bytes_of token text)

-- a name or a reserved word
abbrev pub IsNameOrWord : Kind → Type 0
IsNameOrWord Name = Unit {0}
IsNameOrWord (Word keyword) = Unit {0}
IsNameOrWord Sized = ⊥
IsNameOrWord Plain = ⊥
IsNameOrWord (MarkKind mark) = ⊥
