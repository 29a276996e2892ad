-- What comes between tokens and is skipped (IEEE 1364-2005, 3.2, 3.3, 3.8 and 19): white space, comments, attributes,
-- and the directives that change nothing here. Strings count within attributes alone.
use Rattle.std.specs.Prelude.{◌≡◌, ℕ, true, false, ◌&&◌, ◌||◌, ◌==◌, List, [], ◌∷◌, ◌++◌, ◌⊎◌, codes, MatchBool}
use Rattle.bb_lex.specs.Bytes.{newline, quote, right_round, star, slash, backslash, back_quote, is_white, is_in_line, is_identifier_byte, Each, BeginsNot, EndsBefore}

-- the list ends at the first place where y follows x, with these two
abbrev pub EndsAtFirst : ℕ → ℕ → List ℕ → Type 0
EndsAtFirst x y [] = ⊥
EndsAtFirst x y (b ∷ []) = ⊥
EndsAtFirst x y (b ∷ c ∷ bytes) = MatchBool (b == x && c == y) (bytes ≡ []) (EndsAtFirst x y (c ∷ bytes))

-- a string after its opening quote: up to the next quote; a backslash takes the byte after it along
abbrev pub EndsAtQuote : List ℕ → Type 0
EndsAtQuote [] = ⊥
EndsAtQuote (b ∷ []) = b ≡ quote
EndsAtQuote (b ∷ c ∷ bytes) = MatchBool (b == quote) ⊥ (MatchBool (b == backslash) (EndsAtQuote bytes) (EndsAtQuote (c ∷ bytes)))

-- a comment that ends with its line
pub record IsLineComment (bytes : List ℕ) : Type 0 where
  pub body : List ℕ
  pub opens : bytes ≡ codes "//" ++ body
  pub in_line : Each is_in_line body

-- a comment up to the first */ after its opening
pub record IsBlockComment (bytes : List ℕ) : Type 0 where
  pub body : List ℕ
  pub opens : bytes ≡ codes "/*" ++ body
  pub closes : EndsAtFirst star slash body

pub record IsString (bytes : List ℕ) : Type 0 where
  pub body : List ℕ
  pub opens : bytes ≡ quote ∷ body
  pub closes : EndsAtQuote body

-- a byte of an attribute that opens no string and no comment, and does not close the attribute
pub record IsOrdinary (bytes after : List ℕ) : Type 0 where
  pub byte : ℕ
  pub is : bytes ≡ byte ∷ []
  pub no_quote : (byte == quote) ≡ false
  pub no_comment : byte ≡ slash → BeginsNot (λ b. b == slash || b == star) after
  pub no_end : byte ≡ star → BeginsNot (λ b. b == right_round) after

-- a part of an attribute: a whole string, a whole comment, or another byte
pub data IsPart (bytes after : List ℕ) : Type 0 where
  Quoted : IsString bytes → IsPart bytes after
  Block : IsBlockComment bytes → IsPart bytes after
  Line : IsLineComment bytes → EndsBefore (λ b. b == newline) after → IsPart bytes after
  Other : IsOrdinary bytes after → IsPart bytes after

-- the list is these parts, and then closes the attribute
abbrev pub ArePartsOf : List ℕ → List (List ℕ) → Type 0
ArePartsOf bytes [] = bytes ≡ codes "*)"
ArePartsOf bytes (part ∷ parts) = (after : List ℕ) × (bytes ≡ part ++ after) × IsPart part after × ArePartsOf after parts

-- an attribute: up to the first *) outside strings and comments; (*) is none
pub record IsAttribute (bytes : List ℕ) : Type 0 where
  pub body : List ℕ
  pub parts : List (List ℕ)
  pub opens : bytes ≡ codes "(*" ++ body
  pub not_at_once : BeginsNot (λ b. b == right_round) body
  pub closes : ArePartsOf body parts

-- a directive with the rest of its line
pub record IsDirective (bytes after : List ℕ) : Type 0 where
  pub word : List ℕ
  pub line : List ℕ
  pub known : (word ≡ codes "timescale") ⊎ ((word ≡ codes "celldefine") ⊎ (word ≡ codes "endcelldefine"))
  pub opens : bytes ≡ back_quote ∷ word ++ line
  pub in_line : Each is_in_line line
  pub whole : BeginsNot is_identifier_byte (line ++ after)

pub data IsSkip (bytes after : List ℕ) : Type 0 where
  White : (b : ℕ) → bytes ≡ b ∷ [] → is_white b ≡ true → IsSkip bytes after
  LineComment : IsLineComment bytes → IsSkip bytes after
  BlockComment : IsBlockComment bytes → IsSkip bytes after
  Attribute : IsAttribute bytes → IsSkip bytes after
  Directive : IsDirective bytes after → IsSkip bytes after
