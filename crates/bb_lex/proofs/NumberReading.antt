-- The number at a place, read and cut out of the text.
use Rattle.std.proofs.Common.{◌≡◌, ◌⊎◌, ℕ, ◌^◌, true, Option, Some, None, List, [], ◌∷◌, ◌++◌, sym, refl, ap, ◌∙◌, subst, ⊎_elim, inl, inr, append_assoc, append-nil, eqb-true, nat_lt, nat_le}
use Rattle.std.specs.Prelude.{◌==◌}
use Rattle.std.specs.Char.{is_ascii_digit}
use Rattle.bb_lex.specs.declared.token.Kind.{Kind}
use Rattle.bb_lex.specs.declared.token.Kind.TheVariants.{Sized, Plain}
use Rattle.bb_lex.specs.Bytes.{is_white, is_decimal_byte, Each, BeginsNot, past}
use Rattle.bb_lex.specs.Numbers.{number, radix_of}
use Rattle.bb_lex.specs.Bytes.{is_apostrophe}
use Rattle.bb_lex.specs.Pieces.{IsDecimalRun, IsSized, IsPlain}
use Rattle.bb_lex.specs.Inside.Runs.{run_of}
use Rattle.bb_lex.specs.Inside.Found.{token_of}
use Rattle.bb_lex.specs.Inside.Numbers.{size_fits, after_base, plain_after, sized_after, number_after_digits, number_at}
use Rattle.bb_lex.proofs.Choices.{chosen, cond_true, cond_false, left_true, right_true, both_true, some_pair}
use Rattle.bb_lex.proofs.Runs.{run-past, each_of_run, past_stops, past-each, run-each, past-none, run-none}
use Rattle.bb_lex.proofs.Numerals.{below_from_test, test_from_below, at_most_from_test, test_from_at_most, white_not_decimal, decimal_run, each_of_decimal, base_from_run, IsBased, base_sound, base_complete}

-- what a number is by its kind
abbrev pub IsNumber : Option Kind → List ℕ → List ℕ → Type 0
IsNumber kind bytes after = ((kind ≡ Some Plain) × IsPlain bytes after) ⊎ ((kind ≡ Some Sized) × IsSized bytes after)

plain_sound : (run rest r : List ℕ) (kind : Option Kind) → IsDecimalRun run → BeginsNot is_decimal_byte rest → BeginsNot is_apostrophe (past is_white rest) → plain_after run rest ≡ Some (kind, r) → (run ++ rest ≡ run ++ r) × IsNumber kind run r
plain_sound run rest r kind is whole no_size h =
    ⊎_elim
    (λ yes.
    let both = some_pair (Some Plain) kind rest r yes.1 in
    let e : rest ≡ r = both.1 in
    let k : kind ≡ Some Plain = sym both.0 in
    (ap (λ l. run ++ l) e, inl (k, record { run = is; whole = subst (BeginsNot is_decimal_byte) e whole; no_size = subst (λ l. BeginsNot is_apostrophe (past is_white l)) e no_size; fits = below_from_test _ _ yes.0 })))
    (λ not. absurd (cc))
    (chosen (nat_lt (number 10 run) (2 ^ 31)) (Some (Some Plain, rest)) None (Some (kind, r)) h)

pub token_sound : (kind : Kind) (o : Option (List ℕ)) (found : Option Kind) (r : List ℕ) → token_of kind o ≡ Some (found, r) → (found ≡ Some kind) × (o ≡ Some r)
token_sound kind None found r h = absurd (cc)
token_sound kind (Some after) found r h = let both = some_pair (Some kind) found after r h in (sym both.0, ap Some both.1)

-- the parts of a sized number joined
parts_joined : (size gap space digits r : List ℕ) (letter : ℕ) → (size ++ (gap ++ 39 ∷ letter ∷ (space ++ digits))) ++ r ≡ size ++ (gap ++ 39 ∷ letter ∷ (space ++ (digits ++ r)))
parts_joined size gap space digits r letter =
    append_assoc size (gap ++ 39 ∷ letter ∷ (space ++ digits)) r
    ∙ ap (λ l. size ++ l) (append_assoc gap (39 ∷ letter ∷ (space ++ digits)) r ∙ ap (λ l. gap ++ 39 ∷ letter ∷ l) (append_assoc space digits r))

sized_sound : (size gap t r : List ℕ) (kind : Option Kind) → IsDecimalRun size → Each is_white gap → sized_after size t ≡ Some (kind, r) → (prefix : List ℕ) × (size ++ (gap ++ 39 ∷ t) ≡ prefix ++ r) × IsNumber kind prefix r
sized_sound size gap t r kind is white h =
    ⊎_elim
    (λ yes.
    let found = token_sound Sized (after_base t) kind r yes.1 in
    let w = base_sound t r found.1 in
    let made : t ≡ w.0 ∷ (w.1 ++ (w.2 ++ r)) = w.3 ∙ ap (λ l. w.0 ∷ l) (append_assoc w.1 w.2 r) in (
      size ++ (gap ++ 39 ∷ w.0 ∷ (w.1 ++ w.2)),
      ap (λ l. size ++ (gap ++ 39 ∷ l)) made ∙ sym (parts_joined size gap w.1 w.2 r w.0),
      inr (
        found.0,
        record {
          size = size;
          gap = gap;
          letter = w.0;
          space = w.1;
          digits = w.2;
          made_of = refl;
          size_run = is;
          gap_white = white;
          base = base_from_run (radix_of w.0) w.2 w.4.digit_run;
          space_white = w.4.space_white;
          digit_run = w.4.digit_run;
          whole = w.4.whole;
          some_bits = at_most_from_test 1 (number 10 size) (left_true (nat_le 1 (number 10 size)) _ yes.0);
          at_most_128 = at_most_from_test (number 10 size) 128 (right_true (nat_le 1 (number 10 size)) _ yes.0);
          decimal_fits = w.4.decimal_fits;
        },
      ),
    ))
    (λ not. absurd (cc))
    (chosen (size_fits size) (token_of Sized (after_base t)) None (Some (kind, r)) h)

after_sound : (run rest afterwards r : List ℕ) (kind : Option Kind) → IsDecimalRun run → BeginsNot is_decimal_byte rest → past is_white rest ≡ afterwards → number_after_digits run rest afterwards ≡ Some (kind, r) → (prefix : List ℕ) × (run ++ rest ≡ prefix ++ r) × IsNumber kind prefix r
after_sound run rest [] r kind is whole e h =
    let w = plain_sound run rest r kind is whole (subst (BeginsNot is_apostrophe) (sym e) tt) h in (run, w.0, w.1)
after_sound run rest (b ∷ t) r kind is whole e h =
    ⊎_elim
    (λ yes.
    let b_is : b ≡ 39 = eqb-true b 39 yes.0 in
    let made : rest ≡ run_of is_white rest ++ 39 ∷ t = sym (run-past is_white rest) ∙ ap (λ l. run_of is_white rest ++ l) e ∙ ap (λ n. run_of is_white rest ++ n ∷ t) b_is in
    let w = sized_sound run (run_of is_white rest) t r kind is (each_of_run is_white rest) yes.1 in
    (w.0, ap (λ l. run ++ l) made ∙ w.1, w.2))
    (λ other.
    let w = plain_sound run rest r kind is whole (subst (BeginsNot is_apostrophe) (sym e) other.0) other.1 in (run, w.0, w.1))
    (chosen (b == 39) (sized_after run t) (plain_after run rest) (Some (kind, r)) h)

pub number_sound : (b : ℕ) (t r : List ℕ) (kind : Option Kind) → is_ascii_digit b ≡ true → number_at (b ∷ t) ≡ Some (kind, r) → (prefix : List ℕ) × (b ∷ t ≡ prefix ++ r) × IsNumber kind prefix r
number_sound b t r kind digit h =
    let w = after_sound (run_of is_decimal_byte (b ∷ t)) (past is_decimal_byte (b ∷ t)) (past is_white (past is_decimal_byte (b ∷ t))) r kind (decimal_run b t digit) (past_stops is_decimal_byte (b ∷ t)) refl h in
    (w.0, sym (run-past is_decimal_byte (b ∷ t)) ∙ w.1, w.2)

-- a run of digits that is whole is read as it is
read_run : (run rest : List ℕ) → IsDecimalRun run → BeginsNot is_decimal_byte rest → number_at (run ++ rest) ≡ number_after_digits run rest (past is_white rest)
read_run run rest is whole =
    let each : Each is_decimal_byte run = each_of_decimal run is in
    let e : run_of is_decimal_byte (run ++ rest) ≡ run = run-each is_decimal_byte run rest each ∙ ap (λ l. run ++ l) (run-none is_decimal_byte rest whole) ∙ append-nil run in
    let p : past is_decimal_byte (run ++ rest) ≡ rest = past-each is_decimal_byte run rest each ∙ past-none is_decimal_byte rest whole in
    ap (λ l. number_after_digits l (past is_decimal_byte (run ++ rest)) (past is_white (past is_decimal_byte (run ++ rest)))) e
    ∙ ap (λ l. number_after_digits run l (past is_white l)) p

no_apostrophe : (run rest afterwards : List ℕ) → BeginsNot is_apostrophe afterwards → number_after_digits run rest afterwards ≡ plain_after run rest
no_apostrophe run rest [] not = refl
no_apostrophe run rest (b ∷ afterwards) not = cond_false (b == 39) (sized_after run afterwards) (plain_after run rest) not

pub plain_complete : (bytes after : List ℕ) → IsPlain bytes after → number_at (bytes ++ after) ≡ Some (Some Plain, after)
plain_complete bytes after is =
    read_run bytes after is.run is.whole
    ∙ no_apostrophe bytes after (past is_white after) is.no_size
    ∙ cond_true (nat_lt (number 10 bytes) (2 ^ 31)) (Some (Some Plain, after)) None (test_from_below _ _ is.fits)

gap_not_decimal : (gap t : List ℕ) → Each is_white gap → BeginsNot is_decimal_byte (gap ++ 39 ∷ t)
gap_not_decimal [] t white = refl
gap_not_decimal (b ∷ gap) t white = white_not_decimal b white.0

pub sized_complete : (bytes after : List ℕ) → IsSized bytes after → number_at (bytes ++ after) ≡ Some (Some Sized, after)
sized_complete bytes after is =
    let t : List ℕ = is.letter ∷ (is.space ++ (is.digits ++ after)) in
    let rest : List ℕ = is.gap ++ 39 ∷ t in
    let whole : bytes ++ after ≡ is.size ++ rest = ap (λ l. l ++ after) is.made_of ∙ parts_joined is.size is.gap is.space is.digits after is.letter in
    let afterwards : past is_white rest ≡ 39 ∷ t = past-each is_white is.gap (39 ∷ t) is.gap_white in
    let based : IsBased is.letter is.space is.digits after = record { space_white = is.space_white; digit_run = is.digit_run; whole = is.whole; decimal_fits = is.decimal_fits } in
    ap number_at whole
    ∙ read_run is.size rest is.size_run (gap_not_decimal is.gap t is.gap_white)
    ∙ ap (number_after_digits is.size rest) afterwards
    ∙ cond_true (size_fits is.size) (token_of Sized (after_base t)) None (both_true (nat_le 1 (number 10 is.size)) _ (test_from_at_most _ _ is.some_bits) (test_from_at_most _ _ is.at_most_128))
    ∙ ap (token_of Sized) (base_complete is.letter is.space is.digits after based)
