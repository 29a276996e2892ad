-- The words of a text in the format of the DIMACS challenge on satisfiability (1993). White space is a blank, a tab,
-- a line feed, a form feed or a carriage return, and a line feed alone ends a line. A line that begins with `c`, blanks
-- aside, is a comment, and has no words.
use Rattle.std.specs.Prelude.{ℕ, ◌+◌, ◌==◌, Bool, not, List, [], ◌∷◌, ◌++◌, length, map, filter, slice_index, if◌then◌else◌}
use Rattle.std.specs.List.{slice_split}
use Rattle.std.specs.Char.{is_ascii_whitespace}

-- a word, and the number of its line, counted from 1
pub record TextWord : Type 0 where
  pub line : ℕ
  pub bytes : List ℕ

-- the parts of a line between bytes of white space, without the empty ones
abbrev pub words_in : List ℕ → List (List ℕ)
words_in line = filter (λ part. not (length part == 0)) (slice_split is_ascii_whitespace line)

-- blanks aside, the line begins with the byte `c`
abbrev pub is_comment : List ℕ → Bool
is_comment line = slice_index (filter (λ b. not (is_ascii_whitespace b)) line) 0 == 99

-- words on the line of this number
abbrev pub on_line : ℕ → List (List ℕ) → List TextWord
on_line n words = map (λ bytes. record { line = n; bytes = bytes }) words

-- the words of lines, of which the first has the number n
abbrev pub words_from : ℕ → List (List ℕ) → List TextWord
words_from n [] = []
words_from n (line ∷ lines) = (if is_comment line then [] else on_line n (words_in line)) ++ words_from (n + 1) lines

-- the words of a text, in order; line feeds separate its lines
abbrev pub words_of : List ℕ → List TextWord
words_of text = words_from 1 (slice_split (λ b. b == 10) text)
