-- What is known of the bytes of a number that is a token.
use Rattle.std.proofs.Common.{◌≡◌, ℕ, ◌+◌, ◌<◌, ◌≤◌, ◌^◌, ◌-◌, ◌/◌, ◌%◌, zero, suc, Bool, true, false, Option, Some, None, List, [], ◌∷◌, ◌++◌, sym, refl, ap, ◌∙◌, arith, append-nil, drop, map}
use Rattle.std.proofs.lemmas.List.{map-append}
use Rattle.std.proofs.lemmas.List.Elements.{filter-append}
use Rattle.std.specs.Prelude.{filter, ◌==◌}
use Rattle.std.proofs.lemmas.Nat.{field_of}
use Rattle.std.proofs.Math.Pow.{mod-mod-pow}
use Rattle.std.specs.Char.{is_digit, digit_value}
use Rattle.std.proofs.lemmas.Bool.Decides.{nat_tests}
use Rattle.bb_lex.specs.declared.token.Kind.{Kind}
use Rattle.bb_lex.specs.Inside.Runs.{is_no_apostrophe, run_of}
use Rattle.bb_lex.specs.Inside.Numbers.{size_of, value_of, based_value, sized_bits_of}
use Rattle.bb_lex.specs.Meaning.{MeansBits}
use Rattle.bb_lex.specs.declared.token.Kind.TheVariants.{Sized, Plain}
use Rattle.bb_lex.specs.declared.keyword.Keyword.{Keyword}
use Rattle.bb_lex.specs.declared.token.Token.{Token}
use Rattle.bb_lex.specs.Bytes.{is_white, is_decimal_byte, Each, past}
use Rattle.bb_lex.specs.Numbers.{spelled, number, digits_of, radix_of, weighted_bits}
use Rattle.bb_lex.specs.Pieces.{IsToken, IsSized, IsPlain, kind_of_word}
use Rattle.bb_lex.specs.Pieces.IsToken.{Identifier, Escaped, SizedNumber, PlainNumber, Symbol}
use Rattle.bb_lex.specs.Cut.{bytes_of, IsTokenOf}
use Rattle.bb_lex.proofs.Choices.{cond_false}
use Rattle.bb_lex.proofs.Runs.{run-each, past-each}
use Rattle.bb_lex.proofs.Numerals.{each_of_decimal, radix_small}

word_no_plain : (o : Option Keyword) → Plain ≡ kind_of_word o → ⊥
word_no_plain None e = cc
word_no_plain (Some keyword) e = cc

word_no_sized : (o : Option Keyword) → Sized ≡ kind_of_word o → ⊥
word_no_sized None e = cc
word_no_sized (Some keyword) e = cc

plain_by : (kind : Kind) (bytes after : List ℕ) → kind ≡ Plain → IsToken kind bytes after → IsPlain bytes after
plain_by kind bytes after e (Identifier is k) = absurd (word_no_plain _ (sym e ∙ k))
plain_by kind bytes after e (Escaped is k) = absurd (cc)
plain_by kind bytes after e (SizedNumber is k) = absurd (cc)
plain_by kind bytes after e (PlainNumber is k) = is
plain_by kind bytes after e (Symbol mark is open_ k) = absurd (cc)

sized_by : (kind : Kind) (bytes after : List ℕ) → kind ≡ Sized → IsToken kind bytes after → IsSized bytes after
sized_by kind bytes after e (Identifier is k) = absurd (word_no_sized _ (sym e ∙ k))
sized_by kind bytes after e (Escaped is k) = absurd (cc)
sized_by kind bytes after e (SizedNumber is k) = is
sized_by kind bytes after e (PlainNumber is k) = absurd (cc)
sized_by kind bytes after e (Symbol mark is open_ k) = absurd (cc)

pub plain_fits : (token : Token) (text : List ℕ) → token.kind ≡ Plain → IsTokenOf token text → number 10 (bytes_of token text) < 2 ^ 31
plain_fits token text e is = (plain_by token.kind (bytes_of token text) (drop token.«end» text) e is.is).fits

white_no_digit : (radix b : ℕ) → radix ≤ 16 → is_white b ≡ true → is_digit b radix ≡ false
white_no_digit radix b small white = grind (arith, nat_tests)

white_no_apostrophe : (b : ℕ) → is_white b ≡ true → is_no_apostrophe b ≡ true
white_no_apostrophe b white = grind (arith, nat_tests)

decimal_no_apostrophe : (b : ℕ) → is_decimal_byte b ≡ true → is_no_apostrophe b ≡ true
decimal_no_apostrophe b decimal = grind (arith, nat_tests)

-- white space writes no digits
digits_of-white : (radix : ℕ) (gap : List ℕ) → radix ≤ 16 → Each is_white gap → digits_of radix gap ≡ []
digits_of-white radix [] small white = refl
digits_of-white radix (b ∷ gap) small white =
    ap (map digit_value) (cond_false (is_digit b radix) (b ∷ filter (λ c. is_digit c radix) gap) (filter (λ c. is_digit c radix) gap) (white_no_digit radix b small white.0)) ∙ digits_of-white radix gap small white.1

digits_of-append : (radix : ℕ) (xs ys : List ℕ) → digits_of radix (xs ++ ys) ≡ digits_of radix xs ++ digits_of radix ys
digits_of-append radix xs ys =
    ap (map digit_value) (filter-append (λ c. is_digit c radix) xs ys) ∙ map-append digit_value (filter (λ c. is_digit c radix) xs) (filter (λ c. is_digit c radix) ys)

digits_of-gap : (run gap : List ℕ) → Each is_white gap → digits_of 10 (run ++ gap) ≡ digits_of 10 run
digits_of-gap run gap white = digits_of-append 10 run gap ∙ ap (λ l. digits_of 10 run ++ l) (digits_of-white 10 gap (omega arith) white) ∙ append-nil (digits_of 10 run)

digits_of-space : (radix : ℕ) (space run : List ℕ) → radix ≤ 16 → Each is_white space → digits_of radix (space ++ run) ≡ digits_of radix run
digits_of-space radix space run small white = digits_of-append radix space run ∙ ap (λ l. l ++ digits_of radix run) (digits_of-white radix space small white)

pub each_mapped : (p q : ℕ → Bool) → ((b : ℕ) → p b ≡ true → q b ≡ true) → (xs : List ℕ) → Each p xs → Each q xs
each_mapped p q from [] each = tt
each_mapped p q from (b ∷ xs) each = (from b each.0, each_mapped p q from xs each.1)

-- the run before the apostrophe of a sized number
run_of-sized : (bytes after : List ℕ) (is : IsSized bytes after) → run_of is_no_apostrophe bytes ≡ is.size ++ is.gap
run_of-sized bytes after is =
    let t : List ℕ = 39 ∷ is.letter ∷ (is.space ++ is.digits) in
    ap (run_of is_no_apostrophe) is.made_of
    ∙ run-each is_no_apostrophe is.size (is.gap ++ t) (each_mapped is_decimal_byte is_no_apostrophe decimal_no_apostrophe is.size (each_of_decimal is.size is.size_run))
    ∙ ap (λ l. is.size ++ l) (run-each is_no_apostrophe is.gap t (each_mapped is_white is_no_apostrophe white_no_apostrophe is.gap is.gap_white) ∙ append-nil is.gap)

size_by : (bytes after : List ℕ) (is : IsSized bytes after) → size_of bytes ≡ number 10 is.size
size_by bytes after is = ap (number 10) (run_of-sized bytes after is) ∙ ap (spelled 10) (digits_of-gap is.size is.gap is.gap_white)

-- what follows the apostrophe of a sized number, with it
past-sized : (bytes after : List ℕ) (is : IsSized bytes after) → past is_no_apostrophe bytes ≡ 39 ∷ is.letter ∷ (is.space ++ is.digits)
past-sized bytes after is =
    let t : List ℕ = 39 ∷ is.letter ∷ (is.space ++ is.digits) in
    ap (past is_no_apostrophe) is.made_of
    ∙ past-each is_no_apostrophe is.size (is.gap ++ t) (each_mapped is_decimal_byte is_no_apostrophe decimal_no_apostrophe is.size (each_of_decimal is.size is.size_run))
    ∙ past-each is_no_apostrophe is.gap t (each_mapped is_white is_no_apostrophe white_no_apostrophe is.gap is.gap_white)

value_by : (bytes after : List ℕ) (is : IsSized bytes after) → value_of bytes ≡ number (radix_of is.letter) is.digits
value_by bytes after is =
    ap (λ l. based_value (drop 1 l)) (past-sized bytes after is)
    ∙ ap (spelled (radix_of is.letter)) (digits_of-space (radix_of is.letter) is.space is.digits (radix_small is.letter) is.space_white)

bits_by : (bytes after : List ℕ) (is : IsSized bytes after) → weighted_bits (size_of bytes) (value_of bytes) ≡ weighted_bits (number 10 is.size) (number (radix_of is.letter) is.digits)
bits_by bytes after is = ap (λ n. weighted_bits n (value_of bytes)) (size_by bytes after is) ∙ ap (weighted_bits (number 10 is.size)) (value_by bytes after is)

-- a sized number that is a token says what is read from its bytes, and nothing else
pub reports_read : (token : Token) (text : List ℕ) → token.kind ≡ Sized → IsTokenOf token text → MeansBits token text (sized_bits_of token text)
reports_read token text e is =
    let sized = sized_by token.kind (bytes_of token text) (drop token.«end» text) e is.is in
    record { is = sized; are = bits_by (bytes_of token text) (drop token.«end» text) sized }

pub said_bits : (token : Token) (text : List ℕ) (bits : List Bool) → MeansBits token text bits → bits ≡ sized_bits_of token text
said_bits token text bits reports = reports.are ∙ sym (bits_by (bytes_of token text) (drop token.«end» text) reports.is)

pub size_small : (token : Token) (text : List ℕ) → token.kind ≡ Sized → IsTokenOf token text → size_of (bytes_of token text) ≤ 128
size_small token text e is =
    let sized = sized_by token.kind (bytes_of token text) (drop token.«end» text) e is.is in
    omega (arith, size_by (bytes_of token text) (drop token.«end» text) sized, sized.at_most_128)

bit_below : (n j whole value : ℕ) → suc j + n ≡ whole → value % 2 ^ whole / 2 ^ n % 2 ≡ value / 2 ^ n % 2
bit_below n j whole value e =
    let one : suc j ≡ j + 1 = omega arith in
    ap (λ k. value % 2 ^ k / 2 ^ n % 2) (sym e) ∙ ap (λ x. x % 2) (field_of value (suc j) n) ∙ ap (λ k. value / 2 ^ n % 2 ^ k % 2) one ∙ mod-mod-pow (value / 2 ^ n) j 1

-- the first bit, and the others
pub weighted_bits-first : (n value : ℕ) → 0 < n → weighted_bits n value ≡ (value / 2 ^ (n - 1) % 2 == 1) ∷ weighted_bits (n - 1) value
weighted_bits-first zero value some = absurd (omega arith)
weighted_bits-first (suc n) value some = let e : suc n - 1 ≡ n = omega arith in ap (λ k. (value / 2 ^ k % 2 == 1) ∷ weighted_bits k value) (sym e)

-- the bits below a place are those of the rest below it
pub weighted_bits-mod : (n value : ℕ) → n ≤ 128 → weighted_bits n (value % 2 ^ 128) ≡ weighted_bits n value
weighted_bits-mod zero value small = refl
weighted_bits-mod (suc n) value small =
    let bit : value % 2 ^ 128 / 2 ^ n % 2 ≡ value / 2 ^ n % 2 = bit_below n (127 - n) 128 value (omega arith) in
    ap (λ x. (x == 1) ∷ weighted_bits n (value % 2 ^ 128)) bit ∙ ap (λ l. (value / 2 ^ n % 2 == 1) ∷ l) (weighted_bits-mod n value (omega arith))

pub ruleset number_facts = (plain_fits, size_small)

pub ruleset bit_facts = (weighted_bits-mod)
