-- The reading of numbers finds what the rules say, and nothing else.
use Rattle.std.proofs.Common.{◌≡◌, ℕ, ◌^◌, ◌<◌, ◌≤◌, true, false, Some, None, List, [], ◌∷◌, ◌++◌, sym, ap, ◌∙◌, subst, arith, ⊎_elim, append_assoc, append-nil, eqb-true, eq-eqb, nat_lt, nat_le}
use Rattle.std.specs.Prelude.{◌&&◌, ◌||◌, ◌==◌}
use Rattle.std.specs.Char.{is_ascii_digit, is_digit}
use Rattle.std.proofs.lemmas.Bool.Decides.{nat_tests}
use Rattle.bb_lex.specs.Bytes.{is_white, is_word_byte, is_decimal_byte, Each, BeginsNot, past}
use Rattle.bb_lex.specs.Numbers.{number, radix_of}
use Rattle.bb_lex.specs.Pieces.{IsDecimalRun, IsDigitRun}
use Rattle.bb_lex.specs.Inside.Runs.{run_of}
use Rattle.bb_lex.specs.Inside.Numbers.{is_digit_run, value_fits, after_digits, after_base}
use Rattle.bb_lex.proofs.Choices.{cases_of, chosen, cond_true, cond_false, left_true, right_true, both_true, each_from_test, test_from_each}
use Rattle.bb_lex.proofs.Runs.{run-past, each_of_run, past_stops, past-each, run-each, past-none, run-none}

pub below_from_test : (a b : ℕ) → nat_lt a b ≡ true → a < b
below_from_test a b h = grind (arith, nat_tests)

pub test_from_below : (a b : ℕ) → a < b → nat_lt a b ≡ true
test_from_below a b h = grind (arith, nat_tests)

pub at_most_from_test : (a b : ℕ) → nat_le a b ≡ true → a ≤ b
at_most_from_test a b h = grind (arith, nat_tests)

pub test_from_at_most : (a b : ℕ) → a ≤ b → nat_le a b ≡ true
test_from_at_most a b h = grind (arith, nat_tests)

digit_is_decimal : (b : ℕ) → is_ascii_digit b ≡ true → is_decimal_byte b ≡ true
digit_is_decimal b h = grind (arith, nat_tests)

pub white_not_decimal : (b : ℕ) → is_white b ≡ true → is_decimal_byte b ≡ false
white_not_decimal b h = grind (arith, nat_tests)

digit_not_white : (radix b : ℕ) → radix ≤ 16 → is_digit b radix ≡ true → is_white b ≡ false
digit_not_white radix b small h = grind (arith, nat_tests)

digit_is_word : (radix b : ℕ) → radix ≤ 16 → is_digit b radix ≡ true → is_word_byte b ≡ true
digit_is_word radix b small h = grind (arith, nat_tests)

base_from_digit : (radix b : ℕ) → is_digit b radix ≡ true → 0 < radix
base_from_digit radix b h = grind (arith, nat_tests)

pub radix_small : (b : ℕ) → radix_of b ≤ 16
radix_small b = grind (arith, nat_tests)

-- the run that a digit opens
pub decimal_run : (b : ℕ) (t : List ℕ) → is_ascii_digit b ≡ true → IsDecimalRun (run_of is_decimal_byte (b ∷ t))
decimal_run b t digit =
    subst IsDecimalRun (sym (cond_true (is_decimal_byte b) (b ∷ run_of is_decimal_byte t) [] (digit_is_decimal b digit))) (digit, each_of_run is_decimal_byte t)

pub each_of_decimal : (run : List ℕ) → IsDecimalRun run → Each is_decimal_byte run
each_of_decimal [] is = absurd is
each_of_decimal (b ∷ run) is = (digit_is_decimal b is.0, is.1)

digits_from_test : (radix : ℕ) (digits : List ℕ) → is_digit_run radix digits ≡ true → IsDigitRun radix digits
digits_from_test radix [] h = absurd (cc)
digits_from_test radix (b ∷ digits) h =
    (left_true (is_digit b radix) _ h, each_from_test (λ c. is_digit c radix || c == 95) digits (right_true (is_digit b radix) _ h))

test_from_digits : (radix : ℕ) (digits : List ℕ) → IsDigitRun radix digits → is_digit_run radix digits ≡ true
test_from_digits radix [] is = absurd is
test_from_digits radix (b ∷ digits) is = both_true (is_digit b radix) _ is.0 (test_from_each (λ c. is_digit c radix || c == 95) digits is.1)

pub base_from_run : (radix : ℕ) (digits : List ℕ) → IsDigitRun radix digits → 0 < radix
base_from_run radix [] is = absurd is
base_from_run radix (b ∷ digits) is = base_from_digit radix b is.0

mark_is_word : (radix b : ℕ) → radix ≤ 16 → (is_digit b radix || b == 95) ≡ true → is_word_byte b ≡ true
mark_is_word radix b small h = grind (arith, nat_tests)

each_word : (radix : ℕ) (digits : List ℕ) → radix ≤ 16 → Each (λ c. is_digit c radix || c == 95) digits → Each is_word_byte digits
each_word radix [] small each = tt
each_word radix (b ∷ digits) small each = (mark_is_word radix b small each.0, each_word radix digits small each.1)

each_of_digits : (radix : ℕ) (digits : List ℕ) → radix ≤ 16 → IsDigitRun radix digits → Each is_word_byte digits
each_of_digits radix [] small is = absurd is
each_of_digits radix (b ∷ digits) small is = (digit_is_word radix b small is.0, each_word radix digits small is.1)

digits_not_white : (radix : ℕ) (digits after : List ℕ) → radix ≤ 16 → IsDigitRun radix digits → BeginsNot is_white (digits ++ after)
digits_not_white radix [] after small is = absurd is
digits_not_white radix (b ∷ digits) after small is = digit_not_white radix b small is.0

fits_from_test : (radix : ℕ) (digits : List ℕ) → value_fits radix digits ≡ true → radix ≡ 10 → number 10 digits < 2 ^ 128
fits_from_test radix digits h is = below_from_test _ _ (sym (cond_true (radix == 10) (nat_lt (number 10 digits) (2 ^ 128)) true (eq-eqb radix 10 is)) ∙ h)

test_from_fits : (radix : ℕ) (digits : List ℕ) → (radix ≡ 10 → number 10 digits < 2 ^ 128) → value_fits radix digits ≡ true
test_from_fits radix digits h =
    ⊎_elim
    (λ yes. cond_true (radix == 10) (nat_lt (number 10 digits) (2 ^ 128)) true yes ∙ test_from_below _ _ (h (eqb-true radix 10 yes)))
    (λ other. cond_false (radix == 10) (nat_lt (number 10 digits) (2 ^ 128)) true other)
    (cases_of (radix == 10))

-- what follows the apostrophe of a sized number
pub record IsBased (letter : ℕ) (space digits after : List ℕ) : Type 0 where
  pub space_white : Each is_white space
  pub digit_run : IsDigitRun (radix_of letter) digits
  pub whole : BeginsNot is_word_byte after
  pub decimal_fits : radix_of letter ≡ 10 → number 10 digits < 2 ^ 128

pub base_sound : (t r : List ℕ) → after_base t ≡ Some r → (letter : ℕ) × (space : List ℕ) × (digits : List ℕ) × (t ≡ letter ∷ (space ++ digits) ++ r) × IsBased letter space digits r
base_sound [] r h = absurd (cc)
base_sound (letter ∷ t) r h =
    let radix : ℕ = radix_of letter in
    let rest : List ℕ = past is_white t in
    let digits : List ℕ = run_of is_word_byte rest in
    ⊎_elim
    (λ yes.
    let e : past is_word_byte rest ≡ r = cc in
    let ends : digits ++ r ≡ rest = ap (λ l. digits ++ l) (sym e) ∙ run-past is_word_byte rest in (
      letter,
      run_of is_white t,
      digits,
      ap (λ l. letter ∷ l) (sym (append_assoc (run_of is_white t) digits r ∙ ap (λ l. run_of is_white t ++ l) ends ∙ run-past is_white t)),
      record {
        space_white = each_of_run is_white t;
        digit_run = digits_from_test radix digits (left_true (is_digit_run radix digits) _ yes.0);
        whole = subst (BeginsNot is_word_byte) e (past_stops is_word_byte rest);
        decimal_fits = fits_from_test radix digits (right_true (is_digit_run radix digits) _ yes.0);
      },
    ))
    (λ not. absurd (cc))
    (chosen (is_digit_run radix digits && value_fits radix digits) (Some (past is_word_byte rest)) None (Some r) h)

pub base_complete : (letter : ℕ) (space digits after : List ℕ) → IsBased letter space digits after → after_base (letter ∷ (space ++ (digits ++ after))) ≡ Some after
base_complete letter space digits after is =
    let radix : ℕ = radix_of letter in
    let small : radix ≤ 16 = radix_small letter in
    let rest : past is_white (space ++ (digits ++ after)) ≡ digits ++ after = past-each is_white space (digits ++ after) is.space_white ∙ past-none is_white (digits ++ after) (digits_not_white radix digits after small is.digit_run) in
    let each : Each is_word_byte digits = each_of_digits radix digits small is.digit_run in
    let run : run_of is_word_byte (digits ++ after) ≡ digits = run-each is_word_byte digits after each ∙ ap (λ l. digits ++ l) (run-none is_word_byte after is.whole) ∙ append-nil digits in
    ap (after_digits radix) rest
    ∙ cond_true (is_digit_run radix (run_of is_word_byte (digits ++ after)) && value_fits radix (run_of is_word_byte (digits ++ after))) (Some (past is_word_byte (digits ++ after))) None
    (ap (λ l. is_digit_run radix l && value_fits radix l) run ∙ both_true (is_digit_run radix digits) _ (test_from_digits radix digits is.digit_run) (test_from_fits radix digits is.decimal_fits))
    ∙ ap Some (past-each is_word_byte digits after each ∙ past-none is_word_byte after is.whole)
