-- What a token means in the grammar: a name's bytes, a reserved word, a number, or a mark. Its place in the text and
-- its spelling are dropped.
use Rattle.std.specs.Prelude.{◌≡◌, ℕ, List, [], ◌∷◌, Bool}
use Rattle.bb_lex.specs.declared.keyword.Keyword.{Keyword}
use Rattle.bb_lex.specs.declared.mark.Mark.{Mark}
use Rattle.bb_lex.specs.declared.token.Kind.TheVariants as kinds
use Rattle.bb_lex.specs.declared.token.Token.{Token}
use Rattle.bb_lex.specs.Meaning.{name_of, MeansBits, plain_value_of}

pub data Symbol : Type 0 where
  Identifier : List ℕ → Symbol
  Reserved : Keyword → Symbol
  SizedNumber : List Bool → Symbol
  PlainNumber : ℕ → Symbol
  Sign : Mark → Symbol

-- what a token of a text means
abbrev pub IsSymbol : List ℕ → Token → Symbol → Type 0
IsSymbol text token (Identifier name) = (token.kind ≡ kinds.Name) × (name ≡ name_of token text)
IsSymbol text token (Reserved word) = token.kind ≡ kinds.Word word
IsSymbol text token (SizedNumber bits) = (token.kind ≡ kinds.Sized) × MeansBits token text bits
IsSymbol text token (PlainNumber n) = (token.kind ≡ kinds.Plain) × (n ≡ plain_value_of token text)
IsSymbol text token (Sign mark) = token.kind ≡ kinds.Mark mark

-- one symbol a token, in text order
abbrev pub AreSymbols : List ℕ → List Token → List Symbol → Type 0
AreSymbols text [] [] = Unit {0}
AreSymbols text [] (s ∷ ss) = ⊥
AreSymbols text (t ∷ ts) [] = ⊥
AreSymbols text (t ∷ ts) (s ∷ ss) = IsSymbol text t s × AreSymbols text ts ss
