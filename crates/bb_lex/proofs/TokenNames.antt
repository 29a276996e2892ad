-- The bytes of a name are printable, and there are some.
use Rattle.std.proofs.Common.{◌≡◌, ℕ, ◌<◌, true, false, List, [], ◌∷◌, length, sym, subst, arith}
use Rattle.std.specs.Prelude.{◌==◌, drop}
use Rattle.std.proofs.lemmas.Bool.Decides.{nat_tests}
use Rattle.bb_lex.specs.declared.token.Kind.{Kind}
use Rattle.bb_lex.specs.declared.token.Token.{Token}
use Rattle.bb_lex.specs.Bytes.{begins_identifier, is_identifier_byte, is_graphic, Each}
use Rattle.bb_lex.specs.Pieces.{IsIdentifier, IsToken}
use Rattle.bb_lex.specs.Pieces.IsToken.{Identifier, Escaped, SizedNumber, PlainNumber, Symbol}
use Rattle.bb_lex.specs.Cut.{bytes_of, IsTokenOf}
use Rattle.bb_lex.specs.Meaning.{without_backslash, name_of, IsNameOrWord}
use Rattle.bb_lex.proofs.Choices.{cond_false}
use Rattle.bb_lex.proofs.Meanings.{each_mapped}

-- one or more printable bytes
abbrev IsPrintable : List ℕ → Type 0
IsPrintable name = (0 < length name) × Each is_graphic name

first_graphic : (b : ℕ) → begins_identifier b ≡ true → is_graphic b ≡ true
first_graphic b begins = grind (arith, nat_tests)

next_graphic : (b : ℕ) → is_identifier_byte b ≡ true → is_graphic b ≡ true
next_graphic b is = grind (arith, nat_tests)

first_no_backslash : (b : ℕ) → begins_identifier b ≡ true → (b == 92) ≡ false
first_no_backslash b begins = grind (arith, nat_tests)

identifier_printable : (bytes : List ℕ) → IsIdentifier bytes → IsPrintable (without_backslash bytes)
identifier_printable [] is = absurd is
identifier_printable (b ∷ bytes) is =
    subst IsPrintable (sym (cond_false (b == 92) bytes (b ∷ bytes) (first_no_backslash b is.0)))
    (omega arith, (first_graphic b is.0, each_mapped is_identifier_byte is_graphic next_graphic bytes is.1))

token_printable : (kind : Kind) (bytes after : List ℕ) → IsToken kind bytes after → IsNameOrWord kind → IsPrintable (without_backslash bytes)
token_printable kind bytes after (Identifier is k) name = identifier_printable bytes is
token_printable kind bytes after (Escaped is k) name = subst (λ l. IsPrintable (without_backslash l)) (sym is.opens) (is.some, is.graphic)
token_printable kind bytes after (SizedNumber is k) name = absurd (subst IsNameOrWord k name)
token_printable kind bytes after (PlainNumber is k) name = absurd (subst IsNameOrWord k name)
token_printable kind bytes after (Symbol mark e open_ k) name = absurd (subst IsNameOrWord k name)

pub names_printable : (token : Token) (text : List ℕ) → IsTokenOf token text → IsNameOrWord token.kind → (0 < length (name_of token text)) × Each is_graphic (name_of token text)
names_printable token text is name = token_printable token.kind (bytes_of token text) (drop token.«end» text) is.is name
