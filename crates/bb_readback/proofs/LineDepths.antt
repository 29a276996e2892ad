-- No line nests deeper than a statement may.
use Rattle.std.proofs.Common.{ℕ, ◌≤◌, List, [], ◌∷◌, ◌++◌, map, sym, subst, arith, append_assoc}
use Rattle.std.specs.Prelude.{codes, decimal}
use Rattle.bb_lex.specs.declared.mark.Mark.TheVariants.{LeftRound, RightRound, Comma, Semicolon, Colon, Equals, Query}
use Rattle.bb_parse.specs.Symbols.{Symbol, Identifier, SizedNumber, Sign}
use Rattle.bb_parse.specs.Nesting.{count_after, square_after, greatest_from, nesting}
use Rattle.bb_fill.specs.Words.{NetWord, Bit, Named, CellNet, ChoiceNet}
use Rattle.bb_fill.specs.Lines.{Line, Module, Input, Output, Reg, Gate, Assign, Always, End}
use Rattle.bb_readback.proofs.LineSymbols.{word_symbol, more_symbols, list_symbols, line_symbols}

-- how deep the rest of a statement nests
step : (count : ℕ) (s : Symbol) (rest : List Symbol) → count ≤ 200
    → greatest_from (square_after s 0) (count_after s 0 count) rest ≤ 200 → greatest_from 0 count (s ∷ rest) ≤ 200
step count s rest low more = omega (arith, low, more)

word_step : (stem : List ℕ) (count : ℕ) (word : NetWord) (rest : List Symbol) → count ≤ 200 → greatest_from 0 count rest ≤ 200
    → greatest_from 0 count (word_symbol stem word ∷ rest) ≤ 200
word_step stem count (Bit b) rest low more = step count (SizedNumber (b ∷ [])) rest low more
word_step stem count (Named name) rest low more = step count (Identifier name) rest low more
word_step stem count (CellNet number) rest low more = step count (Identifier (stem ++ decimal number)) rest low more
word_step stem count (ChoiceNet number) rest low more =
    step count (Identifier (stem ++ codes "t" ++ decimal number)) rest low more

more_step : (stem : List ℕ) (count : ℕ) (words : List NetWord) (rest : List Symbol) → count ≤ 200 → greatest_from 0 count rest ≤ 200
    → greatest_from 0 count (more_symbols stem words ++ rest) ≤ 200
more_step stem count [] rest low more = more
more_step stem count (word ∷ words) rest low more =
    step count (Sign Comma) (word_symbol stem word ∷ more_symbols stem words ++ rest) low
    (word_step stem count word (more_symbols stem words ++ rest) low (more_step stem count words rest low more))

list_step : (stem : List ℕ) (count : ℕ) (words : List NetWord) (rest : List Symbol) → count ≤ 200 → greatest_from 0 count rest ≤ 200
    → greatest_from 0 count (list_symbols stem words ++ rest) ≤ 200
list_step stem count [] rest low more = more
list_step stem count (word ∷ words) rest low more =
    word_step stem count word (more_symbols stem words ++ rest) low (more_step stem count words rest low more)

-- words in brackets, after which the statement ends
bracket_step : (stem : List ℕ) (words : List NetWord)
    → greatest_from 0 0 (Sign LeftRound ∷ ((list_symbols stem words ++ Sign RightRound ∷ []) ++ Sign Semicolon ∷ [])) ≤ 200
bracket_step stem words =
    let inner : List Symbol = list_symbols stem words in
    let rest : greatest_from 0 1 (inner ++ Sign RightRound ∷ Sign Semicolon ∷ []) ≤ 200 =
    list_step stem 1 words (Sign RightRound ∷ Sign Semicolon ∷ []) (omega arith) (omega arith) in
    step 0 (Sign LeftRound) ((inner ++ Sign RightRound ∷ []) ++ Sign Semicolon ∷ []) (omega arith)
    (subst (λ (l : List Symbol). greatest_from 0 1 l ≤ 200) (sym (append_assoc inner (Sign RightRound ∷ []) (Sign Semicolon ∷ []))) rest)

pub line_shallow : (stem : List ℕ) (line : Line) → nesting (line_symbols stem line) ≤ 200
line_shallow stem (Module ports) = omega (arith, bracket_step stem (map Named ports))
line_shallow stem (Input name) = omega arith
line_shallow stem (Output name) = omega arith
line_shallow stem (Reg name) = omega arith
line_shallow stem (Gate primitive out ins) = omega (arith, bracket_step stem (out ∷ ins))
line_shallow stem (Assign left condition high low) =
    let last : List Symbol = Sign Semicolon ∷ [] in
    let fourth = word_step stem 0 low last (omega arith) (omega arith) in
    let third = word_step stem 1 high (Sign Colon ∷ word_symbol stem low ∷ last) (omega arith)
    (step 1 (Sign Colon) (word_symbol stem low ∷ last) (omega arith) fourth) in
    let after : List Symbol = word_symbol stem high ∷ Sign Colon ∷ word_symbol stem low ∷ last in
    let second = word_step stem 0 condition (Sign Query ∷ after) (omega arith) (step 0 (Sign Query) after (omega arith) third) in
    let right : List Symbol = word_symbol stem condition ∷ Sign Query ∷ after in
    let first = word_step stem 0 left (Sign Equals ∷ right) (omega arith) (step 0 (Sign Equals) right (omega arith) second) in
    omega (arith, first)
line_shallow stem (Always falling clock name data_word) =
    let last = word_step stem 0 data_word (Sign Semicolon ∷ []) (omega arith) (omega arith) in
    omega (arith, last)
line_shallow stem End = omega arith
