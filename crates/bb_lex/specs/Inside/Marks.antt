-- Marks, read from the start.
use Rattle.std.specs.Prelude.{ℕ, Option, Some, None, List, [], ◌∷◌, ◌&&◌, ◌==◌, if◌then◌else◌}
use Rattle.bb_lex.specs.declared.token.Kind.{Kind}
use Rattle.bb_lex.specs.declared.token.Kind.TheVariants.{Mark as MarkKind}
use Rattle.bb_lex.specs.declared.mark.Mark.{Mark}
use Rattle.bb_lex.specs.declared.mark.Mark.TheVariants.{LeftRound, RightRound, LeftSquare, RightSquare, LeftBrace, RightBrace, Comma, Semicolon, Colon, Dot, Equals, At, Amp, Bar, Caret, Tilde, Query, Plus, Minus, Less, Greater, Bang, LessEqual, GreaterEqual, EqualEqual, BangEqual, LessLess, GreaterGreater, AmpAmp, BarBar, TildeAmp, TildeBar, TildeCaret, CaretTilde}
use Rattle.bb_lex.specs.Inside.Found.{skipped}
use Rattle.bb_lex.specs.Inside.Skips.{after_attribute}

-- ( or an attribute, whose first byte is read
abbrev pub round_at : List ℕ → Option (Option Kind × List ℕ)
round_at [] = Some (Some (MarkKind LeftRound), [])
round_at (b ∷ bytes) = if b == 42 then skipped (after_attribute bytes) else Some (Some (MarkKind LeftRound), b ∷ bytes)

-- the marks of one byte, but for (
abbrev pub short_marks : List (ℕ × Mark)
short_marks =
    (41, RightRound) ∷ (91, LeftSquare) ∷ (93, RightSquare) ∷ (123, LeftBrace) ∷ (125, RightBrace) ∷ (44, Comma) ∷ (59, Semicolon) ∷
    (58, Colon) ∷ (46, Dot) ∷ (61, Equals) ∷ (64, At) ∷ (38, Amp) ∷ (124, Bar) ∷ (94, Caret) ∷ (126, Tilde) ∷ (63, Query) ∷ (43, Plus) ∷
    (45, Minus) ∷ (60, Less) ∷ (62, Greater) ∷ (33, Bang) ∷ []

-- the marks of two bytes
abbrev pub long_marks : List (ℕ × ℕ × Mark)
long_marks =
    (60, 61, LessEqual) ∷ (62, 61, GreaterEqual) ∷ (61, 61, EqualEqual) ∷ (33, 61, BangEqual) ∷ (60, 60, LessLess) ∷ (62, 62, GreaterGreater) ∷
    (38, 38, AmpAmp) ∷ (124, 124, BarBar) ∷ (126, 38, TildeAmp) ∷ (126, 124, TildeBar) ∷ (126, 94, TildeCaret) ∷ (94, 126, CaretTilde) ∷ []

-- the first of these that is a byte, or two bytes
abbrev pub short_among : List (ℕ × Mark) → ℕ → Option Mark
short_among [] b = None
short_among ((x, mark) ∷ marks) b = if b == x then Some mark else short_among marks b

abbrev pub long_among : List (ℕ × ℕ × Mark) → ℕ → ℕ → Option Mark
long_among [] b c = None
long_among ((x, y, mark) ∷ marks) b c = if b == x && c == y then Some mark else long_among marks b c

abbrev pub short_mark : ℕ → Option Mark
short_mark b = short_among short_marks b

abbrev pub long_mark : ℕ → ℕ → Option Mark
long_mark b c = long_among long_marks b c

-- a mark, if there is one, before what follows
abbrev pub mark_before : Option Mark → List ℕ → Option (Option Kind × List ℕ)
mark_before None after = None
mark_before (Some mark) after = Some (Some (MarkKind mark), after)

-- the longer of two marks, the first before these bytes and the second before those
abbrev pub longer_mark : Option Mark → List ℕ → Option Mark → List ℕ → Option (Option Kind × List ℕ)
longer_mark (Some mark) after short rest = Some (Some (MarkKind mark), after)
longer_mark None after short rest = mark_before short rest

-- the mark that begins with a byte
abbrev pub mark_at : ℕ → List ℕ → Option (Option Kind × List ℕ)
mark_at b [] = mark_before (short_mark b) []
mark_at b (c ∷ bytes) = longer_mark (long_mark b c) bytes (short_mark b) (c ∷ bytes)
