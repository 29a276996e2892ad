-- How deep a statement nests: the greatest value of a counter over its symbols. It is raised by ( { and ? and lowered by ) and },
-- and by : where no [ is open. Neither this counter nor the one of open square brackets falls below 0.
use Rattle.std.specs.Prelude.{ℕ, ◌+◌, ◌-◌, ◌==◌, List, [], ◌∷◌, max, if◌then◌else◌}
use Rattle.bb_lex.specs.declared.mark.Mark.{Mark}
use Rattle.bb_lex.specs.declared.mark.Mark.TheVariants.{LeftRound, RightRound, LeftSquare, RightSquare, LeftBrace, RightBrace, Colon, Query}
use Rattle.bb_parse.specs.Symbols.{Symbol, Identifier, Reserved, SizedNumber, PlainNumber, Sign}

-- the counter after a mark, where square counts the open square brackets
abbrev pub mark_count : Mark → ℕ → ℕ → ℕ
mark_count LeftRound square count = count + 1
mark_count LeftBrace square count = count + 1
mark_count Query square count = count + 1
mark_count RightRound square count = count - 1
mark_count RightBrace square count = count - 1
mark_count Colon square count = if square == 0 then count - 1 else count
mark_count mark square count = count

-- the number of open square brackets after a mark
abbrev pub mark_square : Mark → ℕ → ℕ
mark_square LeftSquare square = square + 1
mark_square RightSquare square = square - 1
mark_square mark square = square

abbrev pub count_after : Symbol → ℕ → ℕ → ℕ
count_after (Identifier n) square count = count
count_after (Reserved w) square count = count
count_after (SizedNumber b) square count = count
count_after (PlainNumber n) square count = count
count_after (Sign m) square count = mark_count m square count

abbrev pub square_after : Symbol → ℕ → ℕ
square_after (Identifier n) square = square
square_after (Reserved w) square = square
square_after (SizedNumber b) square = square
square_after (PlainNumber n) square = square
square_after (Sign m) square = mark_square m square

-- the greatest value of the counter from here on
abbrev pub greatest_from : ℕ → ℕ → List Symbol → ℕ
greatest_from square count [] = count
greatest_from square count (t ∷ ts) = max count (greatest_from (square_after t square) (count_after t square count) ts)

abbrev pub nesting : List Symbol → ℕ
nesting ts = greatest_from 0 0 ts
