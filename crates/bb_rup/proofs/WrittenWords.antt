-- The words of a text that is written: each precedes a blank or a line feed, and comments have none.
use Rattle.std.proofs.Common.{◌≡◌, ℕ, ◌+◌, ◌<◌, ◌≤◌, ◌==◌, Bool, true, false, not, cond, Some, None, option_map, option_and_then, List, [], ◌∷◌, ◌++◌, length, codes, decimal, bytes_eq, slice_index, nat_le, append_assoc, refl, sym, ap, ◌∙◌, arith, flat_map, le-leb, ne_eqb}
use Rattle.std.specs.List.{list_all, AllByRecursion}
use Rattle.std.specs.Char.{digit_value, is_ascii_digit, is_ascii_whitespace}
use Rattle.std.specs.Str.Parse.{AllDigits, digits_value}
use Rattle.std.proofs.lemmas.Bool.{cond-true, cond-false, and_from, and_parts, false_from_ne_true}
use Rattle.std.proofs.lemmas.Bool.Decides.{nat_tests}
use Rattle.std.proofs.lemmas.Fmt.{decimal_is_IsNumeral, length-decimal-le}
use Rattle.std.proofs.lemmas.Slice.Eq.{bytes_eq-Decides}
use Rattle.std.proofs.lemmas.Str.Parse.{digit_from_value}
use Rattle.bb_cnf.specs.declared.clauses.Lit.{Lit}
use Rattle.bb_cnf.specs.Clauses.{positive, negated}
use Rattle.bb_rup.specs.Numerals.{numeral_value, variable_of, literal_of}
use Rattle.bb_rup.specs.Inside.Ahead.{is_newline, from_first, before_first, words_ahead}
use Rattle.bb_rup.specs.Laws.Written.{comment_line, AreLines}
use Rattle.bb_rup.proofs.WordSteps.{word_on, ahead-word, ahead-white, ahead-newline, ahead-comment}
use Rattle.bb_rup.proofs.Digits.{number-read}

-- no byte is white space
abbrev pub IsSolid : List ℕ → Type 0
IsSolid word = AllByRecursion (λ b. is_ascii_whitespace b ≡ false) word

before-solid : (word : List ℕ) (b : ℕ) (rest : List ℕ) → IsSolid word → is_ascii_whitespace b ≡ true → before_first is_ascii_whitespace (word ++ b ∷ rest) ≡ word
before-solid [] b rest solid white = cond-true (is_ascii_whitespace b) [] (b ∷ before_first is_ascii_whitespace rest) white
before-solid (c ∷ word) b rest solid white =
    cond-false (is_ascii_whitespace c) [] (c ∷ before_first is_ascii_whitespace (word ++ b ∷ rest)) solid.0 ∙ ap (λ w. c ∷ w) (before-solid word b rest solid.1 white)

from-solid : (word : List ℕ) (b : ℕ) (rest : List ℕ) → IsSolid word → is_ascii_whitespace b ≡ true → from_first is_ascii_whitespace (word ++ b ∷ rest) ≡ b ∷ rest
from-solid [] b rest solid white = cond-true (is_ascii_whitespace b) (b ∷ rest) (from_first is_ascii_whitespace rest) white
from-solid (c ∷ word) b rest solid white =
    cond-false (is_ascii_whitespace c) (c ∷ word ++ b ∷ rest) (from_first is_ascii_whitespace (word ++ b ∷ rest)) solid.0 ∙ from-solid word b rest solid.1 white

pub record IsWord (word : List ℕ) : Type 0 where
  pub some : 0 < length word
  pub solid : IsSolid word

-- the word begins no comment here
abbrev pub MayOccur : Bool → List ℕ → Type 0
MayOccur begun word = begun ≡ false → (slice_index word 0 == 99) ≡ false

word_before : (begun : Bool) (n : ℕ) (word : List ℕ) (b : ℕ) (rest : List ℕ) → IsWord word → MayOccur begun word → is_ascii_whitespace b ≡ true
    → words_ahead begun n (word ++ b ∷ rest) ≡ word_on n word ∷ words_ahead true n (b ∷ rest)
word_before begun n [] b rest is may white = absurd (omega (arith, is.some))
word_before begun n (c ∷ word) b rest is may white =
    ahead-word begun n c (word ++ b ∷ rest) is.solid.0 may
    ∙ ap (λ w. word_on n w ∷ words_ahead true n (from_first is_ascii_whitespace (c ∷ word ++ b ∷ rest))) (before-solid (c ∷ word) b rest is.solid white)
    ∙ ap (λ t. word_on n (c ∷ word) ∷ words_ahead true n t) (from-solid (c ∷ word) b rest is.solid white)

pub word_blank : (begun : Bool) (n : ℕ) (word rest : List ℕ) → IsWord word → MayOccur begun word → words_ahead begun n (word ++ 32 ∷ rest) ≡ word_on n word ∷ words_ahead true n rest
word_blank begun n word rest is may = word_before begun n word 32 rest is may refl ∙ ap (λ words. word_on n word ∷ words) (ahead-white true n 32 rest refl refl)

pub word_newline : (begun : Bool) (n : ℕ) (word rest : List ℕ) → IsWord word → MayOccur begun word → words_ahead begun n (word ++ 10 ∷ rest) ≡ word_on n word ∷ words_ahead false (n + 1) rest
word_newline begun n word rest is may = word_before begun n word 10 rest is may refl ∙ ap (λ words. word_on n word ∷ words) (ahead-newline true n 10 rest refl)

-- comments
negation : (b : Bool) → not b ≡ true → b ≡ false
negation true h = sym h
negation false h = refl

from-line : (line rest : List ℕ) → list_all (λ b. not (b == 10)) line ≡ true → from_first is_newline (line ++ rest) ≡ from_first is_newline rest
from-line [] rest h = refl
from-line (b ∷ line) rest h =
    let parts = and_parts (not (b == 10)) (list_all (λ c. not (c == 10)) line) h in
    cond-false (is_newline b) (b ∷ line ++ rest) (from_first is_newline (line ++ rest)) (negation (b == 10) parts.0) ∙ from-line line rest parts.1

comment_ahead : (n : ℕ) (comment rest : List ℕ) → list_all (λ b. not (b == 10)) comment ≡ true → words_ahead false n (comment_line comment ++ rest) ≡ words_ahead false (n + 1) rest
comment_ahead n comment rest h =
    ahead-comment n 99 (comment ++ 10 ∷ [] ++ rest) refl
    ∙ ap (λ t. words_ahead false n (from_first is_newline t)) (append_assoc comment (10 ∷ []) rest)
    ∙ ap (words_ahead false n) (from-line comment (10 ∷ rest) h)
    ∙ ahead-newline false n 10 rest refl

pub comments_ahead : (n : ℕ) (comments : List (List ℕ)) (rest : List ℕ) → AreLines comments
    → words_ahead false n (flat_map comment_line comments ++ rest) ≡ words_ahead false (n + length comments) rest
comments_ahead n [] rest are = ap (λ m. words_ahead false m rest) (omega arith)
comments_ahead n (comment ∷ comments) rest are =
    ap (words_ahead false n) (append_assoc (comment_line comment) (flat_map comment_line comments) rest)
    ∙ comment_ahead n comment (flat_map comment_line comments ++ rest) are.0
    ∙ comments_ahead (n + 1) comments rest are.1
    ∙ ap (λ m. words_ahead false m rest) (omega arith)

-- numbers
digit_byte : (b : ℕ) → digit_value b < 10 → (is_ascii_digit b ≡ true) × (is_ascii_whitespace b ≡ false) × (48 ≤ b) × (b ≤ 57)
digit_byte b h =
    let is = digit_from_value b h in
    (grind (arith, nat_tests), grind (arith, nat_tests), omega (arith, is), omega (arith, is))

all_digits : (word : List ℕ) → AllDigits 10 word → (list_all is_ascii_digit word ≡ true) × IsSolid word
all_digits [] h = (refl, tt)
all_digits (b ∷ word) h =
    let here = digit_byte b h.0 in
    let rest = all_digits word h.1 in
    (and_from (is_ascii_digit b) (list_all is_ascii_digit word) here.0 rest.0, (here.1, rest.1))

digit_first : (word : List ℕ) → 0 < length word → AllDigits 10 word → (48 ≤ slice_index word 0) × (slice_index word 0 ≤ 57)
digit_first [] some h = absurd (omega (arith, some))
digit_first (b ∷ word) some h = let here = digit_byte b h.0 in (here.2, here.3)

-- a number of at most ten digits
abbrev pub IsShort : ℕ → Type 0
IsShort n = n < 10000000000

pub number-decimal : (n : ℕ) → IsShort n → numeral_value (decimal n) ≡ Some n
number-decimal n short =
    let is = decimal_is_IsNumeral n (omega (arith, short)) in
    sym (number-read (decimal n) n (all_digits (decimal n) is.0.1).0 (omega (arith, is.0.0)) (length-decimal-le 10 n (omega arith) (omega (arith, short)) (omega (arith, short))) (sym is.1))

pub decimal_word : (n : ℕ) → IsShort n → IsWord (decimal n)
decimal_word n short =
    let is = decimal_is_IsNumeral n (omega (arith, short)) in
    record { some = is.0.0; solid = (all_digits (decimal n) is.0.1).1 }

variable-decimal : (n : ℕ) → IsShort n → 1 ≤ n → variable_of (decimal n) ≡ Some n
variable-decimal n short some =
    ap (option_and_then (λ m. cond (nat_le 1 m) (Some m) None)) (number-decimal n short) ∙ cond-true (nat_le 1 n) (Some n) None (le-leb 1 n some)

-- literals
abbrev pub literal : Bool → ℕ → Lit
literal neg x = record { var = x; neg = neg }

abbrev pub literal_word : Lit → List ℕ
literal_word l = cond l.neg (codes "-") [] ++ decimal l.var

pub record IsLiteralWord (l : Lit) : Type 0 where
  pub is : IsWord (literal_word l)
  pub no_comment : (slice_index (literal_word l) 0 == 99) ≡ false
  pub reads : literal_of (literal_word l) ≡ Some l
  pub no_end : bytes_eq (literal_word l) (codes "0") ≡ false
  pub no_mark : bytes_eq (literal_word l) (codes "d") ≡ false

pub literal_written : (neg : Bool) (x : ℕ) → IsShort x → 1 ≤ x → IsLiteralWord (literal neg x)
literal_written true x short some = record {
  is = record { some = omega arith; solid = (refl, (decimal_word x short).solid) };
  no_comment = refl;
  reads = ap (option_map negated) (variable-decimal x short some);
  no_end = refl;
  no_mark = refl;
}
literal_written false x short some =
    let number = decimal_is_IsNumeral x (omega (arith, short)) in
    let first = digit_first (decimal x) number.0.0 number.0.1 in
    record {
      is = decimal_word x short;
      no_comment = ne_eqb (slice_index (decimal x) 0) 99 (λ e. omega (arith, e, first.1));
      reads = cond-false (slice_index (decimal x) 0 == 45) _ (option_map positive (variable_of (decimal x))) (ne_eqb (slice_index (decimal x) 0) 45 (λ e. omega (arith, e, first.0)))
          ∙ ap (option_map positive) (variable-decimal x short some);
      no_end = false_from_ne_true _ (λ h. omega (arith, some, number.1, ap (digits_value 10) ((bytes_eq-Decides (decimal x) (codes "0")).0 h)));
      no_mark = false_from_ne_true _ (λ h. omega (arith, first.1, ap (λ w. slice_index w 0) ((bytes_eq-Decides (decimal x) (codes "d")).0 h)));
    }
