-- What is ahead at a place, by its first byte: white space and comments have no words, and another byte begins one.
-- A text is cut into lines first and these into words; so a step at the beginning of the text is one at the beginning of its
-- first line, and leaves the other lines.
use Rattle.std.proofs.Common.{◌≡◌, ℕ, ◌+◌, ◌<◌, ◌==◌, Bool, true, false, not, cond, List, [], ◌∷◌, ◌++◌, length, filter, slice_index, refl, sym, ap, ◌∙◌, ⊎_elim, arith, ne_eqb, eqb-true}
use Rattle.std.specs.List.{slice_split, onto_first}
use Rattle.std.specs.Char.{is_ascii_whitespace}
use Rattle.std.proofs.lemmas.Bool.{cases_Bool, cond-true, cond-false}
use Rattle.std.proofs.lemmas.Bool.Decides.{nat_tests}
use Rattle.std.proofs.lemmas.List.Splits.{slice_split-cons_yes, slice_split-cons_no, length-slice_split}
use Rattle.bb_rup.specs.TextWords.{TextWord, is_comment, words_in, on_line, words_from, words_of}
use Rattle.bb_rup.specs.Inside.Ahead.{is_newline, from_first, before_first, line_ahead, lines_ahead, words_ahead}
use Rattle.bb_rup.proofs.Prefixes.{length-from, take-before, drop-before, from-less}

-- the first part, and the others
abbrev pub first_part : {X : Type 0} → List (List X) → List X
first_part [] = []
first_part (part ∷ parts) = part

abbrev pub other_parts : {X : Type 0} → List (List X) → List (List X)
other_parts [] = []
other_parts (part ∷ parts) = parts

-- a word of a line
abbrev pub word_on : ℕ → List ℕ → TextWord
word_on n bytes = record { line = n; bytes = bytes }

abbrev is_not_empty : List ℕ → Bool
is_not_empty part = not (length part == 0)

first-onto : {X : Type 0} (x : X) (parts : List (List X)) → onto_first x parts ≡ (x ∷ first_part parts) ∷ other_parts parts
first-onto x [] = refl
first-onto x (part ∷ parts) = refl

-- a list with an element before it that does not cut
pub split_more : {X : Type 0} (p : X → Bool) (x : X) (xs : List X) → p x ≡ false → slice_split p (x ∷ xs) ≡ (x ∷ first_part (slice_split p xs)) ∷ other_parts (slice_split p xs)
split_more p x xs h = slice_split-cons_no p x xs h ∙ first-onto x (slice_split p xs)

-- a line begins where a text does
from_line : (n : ℕ) (lines : List (List ℕ)) → lines_ahead false n lines ≡ words_from n lines
from_line n [] = refl
from_line n (line ∷ lines) = refl

pub ahead-start : (text : List ℕ) → words_ahead false 1 text ≡ words_of text
ahead-start text = from_line 1 (slice_split is_newline text)

pub ahead-end : (begun : Bool) (n : ℕ) → words_ahead begun n [] ≡ []
ahead-end true n = refl
ahead-end false n = refl

-- a line feed
empty_line : (begun : Bool) (n : ℕ) (lines : List (List ℕ)) → lines_ahead begun n ([] ∷ lines) ≡ words_from (n + 1) lines
empty_line true n lines = refl
empty_line false n lines = refl

newline_ahead : (begun : Bool) (n b : ℕ) (rest : List ℕ) → is_newline b ≡ true → words_ahead begun n (b ∷ rest) ≡ words_from (n + 1) (slice_split is_newline rest)
newline_ahead begun n b rest h = ap (lines_ahead begun n) (slice_split-cons_yes is_newline b rest h) ∙ empty_line begun n (slice_split is_newline rest)

pub ahead-newline : (begun : Bool) (n b : ℕ) (rest : List ℕ) → is_newline b ≡ true → words_ahead begun n (b ∷ rest) ≡ words_ahead false (n + 1) rest
ahead-newline begun n b rest h = newline_ahead begun n b rest h ∙ sym (from_line (n + 1) (slice_split is_newline rest))

-- other white space
words_in-white : (b : ℕ) (line : List ℕ) → is_ascii_whitespace b ≡ true → words_in (b ∷ line) ≡ words_in line
words_in-white b line h = ap (filter is_not_empty) (slice_split-cons_yes is_ascii_whitespace b line h)

is_comment-white : (b : ℕ) (line : List ℕ) → is_ascii_whitespace b ≡ true → is_comment (b ∷ line) ≡ is_comment line
is_comment-white b line h =
    ap (λ white. slice_index (cond (not white) (b ∷ filter (λ c. not (is_ascii_whitespace c)) line) (filter (λ c. not (is_ascii_whitespace c)) line)) 0 == 99) h

line_white : (begun : Bool) (n b : ℕ) (line : List ℕ) → is_ascii_whitespace b ≡ true → line_ahead begun n (b ∷ line) ≡ line_ahead begun n line
line_white true n b line h = ap (on_line n) (words_in-white b line h)
line_white false n b line h =
    ap (λ comment. cond comment [] (on_line n (words_in (b ∷ line)))) (is_comment-white b line h)
    ∙ ap (λ words. cond (is_comment line) [] (on_line n words)) (words_in-white b line h)

lines_white : (begun : Bool) (n b : ℕ) (lines : List (List ℕ)) → is_ascii_whitespace b ≡ true → 0 < length lines → lines_ahead begun n (onto_first b lines) ≡ lines_ahead begun n lines
lines_white begun n b [] h some = absurd (omega (arith, some))
lines_white begun n b (line ∷ lines) h some = ap (λ words. words ++ words_from (n + 1) lines) (line_white begun n b line h)

pub has_part : {X : Type 0} (p : X → Bool) (xs : List X) → 0 < length (slice_split p xs)
has_part p xs = omega (arith, length-slice_split p xs)

pub ahead-white : (begun : Bool) (n b : ℕ) (rest : List ℕ) → is_newline b ≡ false → is_ascii_whitespace b ≡ true → words_ahead begun n (b ∷ rest) ≡ words_ahead begun n rest
ahead-white begun n b rest other h =
    ap (lines_ahead begun n) (slice_split-cons_no is_newline b rest other)
    ∙ lines_white begun n b (slice_split is_newline rest) h (has_part is_newline rest)

-- a comment, up to the end of its line
others-onto : {X : Type 0} (x : X) (parts : List (List X)) → other_parts (onto_first x parts) ≡ other_parts parts
others-onto x [] = refl
others-onto x (part ∷ parts) = refl

after_line : (n : ℕ) (rest : List ℕ) → words_ahead false n (from_first is_newline rest) ≡ words_from (n + 1) (other_parts (slice_split is_newline rest))
after_line n [] = refl
after_line n (b ∷ rest) =
    ⊎_elim
    (λ holds.
    ap (words_ahead false n) (cond-true (is_newline b) (b ∷ rest) (from_first is_newline rest) holds)
    ∙ newline_ahead false n b rest holds
    ∙ ap (λ parts. words_from (n + 1) (other_parts parts)) (sym (slice_split-cons_yes is_newline b rest holds)))
    (λ fails.
    ap (words_ahead false n) (cond-false (is_newline b) (b ∷ rest) (from_first is_newline rest) fails)
    ∙ after_line n rest
    ∙ ap (words_from (n + 1)) (sym (ap other_parts (slice_split-cons_no is_newline b rest fails) ∙ others-onto b (slice_split is_newline rest))))
    (cases_Bool (is_newline b))

comment_line : (n : ℕ) (lines : List (List ℕ)) → lines_ahead false n (onto_first 99 lines) ≡ words_from (n + 1) (other_parts lines)
comment_line n [] = refl
comment_line n (line ∷ lines) = refl

comment_ahead : (n : ℕ) (rest : List ℕ) → words_ahead false n (99 ∷ rest) ≡ words_ahead false n (from_first is_newline rest)
comment_ahead n rest = comment_line n (slice_split is_newline rest) ∙ sym (after_line n rest)

pub ahead-comment : (n b : ℕ) (rest : List ℕ) → (b == 99) ≡ true → words_ahead false n (b ∷ rest) ≡ words_ahead false n (from_first is_newline rest)
ahead-comment n b rest h = ap (λ c. words_ahead false n (c ∷ rest)) (eqb-true b 99 h) ∙ comment_ahead n rest

-- the words of a line that begins with one
first_word : (line : List ℕ) → (first_part (slice_split is_ascii_whitespace line) ≡ before_first is_ascii_whitespace line)
    × (filter is_not_empty (other_parts (slice_split is_ascii_whitespace line)) ≡ words_in (from_first is_ascii_whitespace line))
first_word [] = (refl, refl)
first_word (b ∷ line) =
    let white : Bool = is_ascii_whitespace b in
    let parts = slice_split is_ascii_whitespace line in
    ⊎_elim
    (λ holds. (
      ap first_part (slice_split-cons_yes is_ascii_whitespace b line holds) ∙ sym (cond-true white [] (b ∷ before_first is_ascii_whitespace line) holds),
      ap (λ ps. filter is_not_empty (other_parts ps)) (slice_split-cons_yes is_ascii_whitespace b line holds)
          ∙ sym (ap words_in (cond-true white (b ∷ line) (from_first is_ascii_whitespace line) holds) ∙ words_in-white b line holds),
    ))
    (λ fails. (
      ap first_part (split_more is_ascii_whitespace b line fails) ∙ ap (λ l. b ∷ l) (first_word line).0 ∙ sym (cond-false white [] (b ∷ before_first is_ascii_whitespace line) fails),
      ap (λ ps. filter is_not_empty (other_parts ps)) (split_more is_ascii_whitespace b line fails)
          ∙ (first_word line).1
          ∙ ap words_in (sym (cond-false white (b ∷ line) (from_first is_ascii_whitespace line) fails)),
    ))
    (cases_Bool white)

filter-cons : (b : ℕ) (part : List ℕ) (parts : List (List ℕ)) → filter is_not_empty ((b ∷ part) ∷ parts) ≡ (b ∷ part) ∷ filter is_not_empty parts
filter-cons b part parts = ap (λ empty. cond (not empty) ((b ∷ part) ∷ filter is_not_empty parts) (filter is_not_empty parts)) (ne_eqb (length (b ∷ part)) 0 (λ e. omega (arith, e)))

pub words_in-word : (b : ℕ) (line : List ℕ) → is_ascii_whitespace b ≡ false
    → words_in (b ∷ line) ≡ before_first is_ascii_whitespace (b ∷ line) ∷ words_in (from_first is_ascii_whitespace (b ∷ line))
words_in-word b line fails =
    let white : Bool = is_ascii_whitespace b in
    ap (filter is_not_empty) (split_more is_ascii_whitespace b line fails)
    ∙ filter-cons b (first_part (slice_split is_ascii_whitespace line)) (other_parts (slice_split is_ascii_whitespace line))
    ∙ ap (λ part. (b ∷ part) ∷ filter is_not_empty (other_parts (slice_split is_ascii_whitespace line))) (first_word line).0
    ∙ ap (λ words. (b ∷ before_first is_ascii_whitespace line) ∷ words) (first_word line).1
    ∙ sym (ap (λ word. word ∷ words_in (from_first is_ascii_whitespace (b ∷ line))) (cond-false white [] (b ∷ before_first is_ascii_whitespace line) fails)
    ∙ ap (λ rest. (b ∷ before_first is_ascii_whitespace line) ∷ words_in rest) (cond-false white (b ∷ line) (from_first is_ascii_whitespace line) fails))

-- a line feed is white space
newline_white : (b : ℕ) → is_ascii_whitespace b ≡ false → is_newline b ≡ false
newline_white b h = grind (arith, nat_tests)

-- up to the first white space a text is as its first line is
before_line : (text : List ℕ) → before_first is_ascii_whitespace text ≡ before_first is_ascii_whitespace (first_part (slice_split is_newline text))
before_line [] = refl
before_line (b ∷ text) =
    let white : Bool = is_ascii_whitespace b in
    let line : List ℕ = first_part (slice_split is_newline text) in
    ⊎_elim
    (λ holds.
    ⊎_elim
    (λ line_ends. cond-true white [] _ holds ∙ ap (λ parts. before_first is_ascii_whitespace (first_part parts)) (sym (slice_split-cons_yes is_newline b text line_ends)))
    (λ other. cond-true white [] _ holds ∙ sym (cond-true white [] (b ∷ before_first is_ascii_whitespace line) holds)
    ∙ ap (λ parts. before_first is_ascii_whitespace (first_part parts)) (sym (split_more is_newline b text other)))
    (cases_Bool (is_newline b)))
    (λ fails. cond-false white [] _ fails ∙ ap (λ l. b ∷ l) (before_line text) ∙ sym (cond-false white [] (b ∷ before_first is_ascii_whitespace line) fails)
    ∙ ap (λ parts. before_first is_ascii_whitespace (first_part parts)) (sym (split_more is_newline b text (newline_white b fails))))
    (cases_Bool white)

-- and from there on
from_text : (text : List ℕ) → slice_split is_newline (from_first is_ascii_whitespace text)
    ≡ from_first is_ascii_whitespace (first_part (slice_split is_newline text)) ∷ other_parts (slice_split is_newline text)
from_text [] = refl
from_text (b ∷ text) =
    let white : Bool = is_ascii_whitespace b in
    let line : List ℕ = first_part (slice_split is_newline text) in
    let lines = other_parts (slice_split is_newline text) in
    let show = λ (parts : List (List ℕ)). from_first is_ascii_whitespace (first_part parts) ∷ other_parts parts in
    ⊎_elim
    (λ holds.
    ap (slice_split is_newline) (cond-true white (b ∷ text) (from_first is_ascii_whitespace text) holds)
    ∙ ⊎_elim
    (λ line_ends. slice_split-cons_yes is_newline b text line_ends ∙ ap show (sym (slice_split-cons_yes is_newline b text line_ends)))
    (λ other. split_more is_newline b text other ∙ ap (λ l. l ∷ lines) (sym (cond-true white (b ∷ line) (from_first is_ascii_whitespace line) holds))
    ∙ ap show (sym (split_more is_newline b text other)))
    (cases_Bool (is_newline b)))
    (λ fails.
    ap (slice_split is_newline) (cond-false white (b ∷ text) (from_first is_ascii_whitespace text) fails)
    ∙ from_text text
    ∙ ap (λ l. l ∷ lines) (sym (cond-false white (b ∷ line) (from_first is_ascii_whitespace line) fails))
    ∙ ap show (sym (split_more is_newline b text (newline_white b fails))))
    (cases_Bool white)

-- a line that begins with a word is a comment where its first byte is c
is_comment-word : (b : ℕ) (line : List ℕ) → is_ascii_whitespace b ≡ false → is_comment (b ∷ line) ≡ (b == 99)
is_comment-word b line h =
    ap (λ white. slice_index (cond (not white) (b ∷ filter (λ c. not (is_ascii_whitespace c)) line) (filter (λ c. not (is_ascii_whitespace c)) line)) 0 == 99) h

line_word : (begun : Bool) (n b : ℕ) (line : List ℕ) → is_ascii_whitespace b ≡ false → (begun ≡ false → (b == 99) ≡ false)
    → line_ahead begun n (b ∷ line) ≡ word_on n (before_first is_ascii_whitespace (b ∷ line)) ∷ on_line n (words_in (from_first is_ascii_whitespace (b ∷ line)))
line_word true n b line fails known = ap (on_line n) (words_in-word b line fails)
line_word false n b line fails known =
    cond-false (is_comment (b ∷ line)) [] (on_line n (words_in (b ∷ line))) (is_comment-word b line fails ∙ known refl)
    ∙ ap (on_line n) (words_in-word b line fails)

word_here : (begun : Bool) (n b : ℕ) (line : List ℕ) (lines : List (List ℕ)) → is_ascii_whitespace b ≡ false → (begun ≡ false → (b == 99) ≡ false)
    → lines_ahead begun n ((b ∷ line) ∷ lines)
    ≡ word_on n (before_first is_ascii_whitespace (b ∷ line)) ∷ lines_ahead true n (from_first is_ascii_whitespace (b ∷ line) ∷ lines)
word_here begun n b line lines fails known = ap (λ words. words ++ words_from (n + 1) lines) (line_word begun n b line fails known)

pub ahead-word : (begun : Bool) (n b : ℕ) (rest : List ℕ) → is_ascii_whitespace b ≡ false → (begun ≡ false → (b == 99) ≡ false)
    → words_ahead begun n (b ∷ rest) ≡ word_on n (before_first is_ascii_whitespace (b ∷ rest)) ∷ words_ahead true n (from_first is_ascii_whitespace (b ∷ rest))
ahead-word begun n b rest fails known =
    let text : List ℕ = b ∷ rest in
    let line : List ℕ = first_part (slice_split is_newline rest) in
    let lines = other_parts (slice_split is_newline rest) in
    let split : slice_split is_newline text ≡ (b ∷ line) ∷ lines = split_more is_newline b rest (newline_white b fails) in
    ap (lines_ahead begun n) split
    ∙ word_here begun n b line lines fails known
    ∙ ap (λ bytes. word_on n bytes ∷ lines_ahead true n (from_first is_ascii_whitespace (b ∷ line) ∷ lines))
    (sym (before_line text ∙ ap (λ parts. before_first is_ascii_whitespace (first_part parts)) split))
    ∙ ap (λ parts. word_on n (before_first is_ascii_whitespace text) ∷ lines_ahead true n parts)
    (sym (from_text text ∙ ap (λ parts. from_first is_ascii_whitespace (first_part parts) ∷ other_parts parts) split))

pub ruleset word_steps = (ahead-start, ahead-end, ahead-newline, ahead-white, ahead-comment, ahead-word, length-from, take-before, drop-before, from-less)
