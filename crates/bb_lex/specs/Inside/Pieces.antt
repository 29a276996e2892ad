-- The piece at the start of a text.
use Rattle.std.specs.Prelude.{ℕ, Option, Some, None, List, [], ◌∷◌, ◌==◌, if◌then◌else◌}
use Rattle.std.specs.Char.{is_ascii_digit}
use Rattle.bb_lex.specs.declared.token.Kind.{Kind}
use Rattle.bb_lex.specs.declared.token.Kind.TheVariants.{Name}
use Rattle.bb_lex.specs.declared.token.Token.{Token}
use Rattle.bb_lex.specs.declared.class.Opening.{Opening}
use Rattle.bb_lex.specs.Bytes.{is_white, begins_identifier}
use Rattle.bb_lex.specs.declared.class.Opening.TheVariants as opening
use Rattle.bb_lex.specs.Inside.Found.{skipped, token_of}
use Rattle.bb_lex.specs.Inside.Words.{identifier_at}
use Rattle.bb_lex.specs.Inside.Numbers.{number_at}
use Rattle.bb_lex.specs.Inside.Skips.{after_comment, after_directive, after_escaped}
use Rattle.bb_lex.specs.Inside.Marks.{round_at, mark_at}

-- what a first byte opens
abbrev pub opening_of : ℕ → Opening
opening_of b =
    if is_white b then opening.White
    else (if begins_identifier b then opening.Identifier
    else (if is_ascii_digit b then opening.Number
    else (if b == 47 then opening.Comment
    else (if b == 40 then opening.Round
    else (if b == 92 then opening.Escaped
    else (if b == 96 then opening.Directive
    else opening.Mark))))))

-- the piece that an opening byte and the bytes after it begin with
abbrev pub opened_by : Opening → ℕ → List ℕ → Option (Option Kind × List ℕ)
opened_by opening.White b bytes = Some (None, bytes)
opened_by opening.Identifier b bytes = identifier_at (b ∷ bytes)
opened_by opening.Number b bytes = number_at (b ∷ bytes)
opened_by opening.Comment b bytes = skipped (after_comment bytes)
opened_by opening.Round b bytes = round_at bytes
opened_by opening.Escaped b bytes = token_of Name (after_escaped bytes)
opened_by opening.Directive b bytes = skipped (after_directive bytes)
opened_by opening.Mark b bytes = mark_at b bytes

-- the piece at the start
abbrev pub piece_at : List ℕ → Option (Option Kind × List ℕ)
piece_at [] = None
piece_at (b ∷ bytes) = opened_by (opening_of b) b bytes

-- the token of a piece with a kind, and none without
abbrev pub tokens_at : Option Kind → ℕ → ℕ → ℕ → List Token
tokens_at None start end line = []
tokens_at (Some kind) start end line = record { kind = kind; start = start; «end» = end; line = line } ∷ []
