-- Runs of bytes of a class at the beginning, and how the classes of bytes lie to one another.
use Rattle.std.proofs.Common.{◌≡◌, ℕ, ◌≤◌, Bool, true, false, cond, List, [], ◌∷◌, ◌++◌, refl, ap, ◌∙◌, arith}
use Rattle.std.specs.Prelude.{◌==◌, ◌&&◌}
use Rattle.std.specs.List.{AllByRecursion}
use Rattle.std.proofs.lemmas.Bool.Decides.{nat_tests}
use Rattle.bb_lemmas.proofs.Bits.{neither_left, and_both}
use Rattle.bb_lex.specs.Bytes.{is_white, begins_identifier, is_identifier_byte, is_word_byte, is_graphic, Each, BeginsNot, past}
use Rattle.bb_lex.specs.Pieces.{IsIdentifier}
use Rattle.bb_lex.specs.Inside.Runs.{run_of}

pub cond_true : {X : Type 0} (b : Bool) (x y : X) → b ≡ true → cond b x y ≡ x
cond_true true x y e = refl
cond_true false x y e = absurd (cc)

pub cond_false : {X : Type 0} (b : Bool) (x y : X) → b ≡ false → cond b x y ≡ y
cond_false true x y e = absurd (cc)
cond_false false x y e = refl

-- what holds of each element of two lists holds one after another
pub all-append : {A : Type 0} (P : A → Type 0) (xs ys : List A) → AllByRecursion P xs → AllByRecursion P ys
    → AllByRecursion P (xs ++ ys)
all-append P [] ys left right = right
all-append P (x ∷ xs) ys left right = (left.0, all-append P xs ys left.1 right)

-- bytes of the class are passed, up to a byte of another
pub past-each : (p : ℕ → Bool) (body after : List ℕ) → Each p body → BeginsNot p after → past p (body ++ after) ≡ after
past-each p [] [] each other = refl
past-each p [] (b ∷ after) each other = cond_false (p b) (past p after) (b ∷ after) other
past-each p (b ∷ body) after each other =
    cond_true (p b) (past p (body ++ after)) (b ∷ body ++ after) each.0 ∙ past-each p body after each.1 other

-- and they are the run
pub run-each : (p : ℕ → Bool) (body after : List ℕ) → Each p body → BeginsNot p after → run_of p (body ++ after) ≡ body
run-each p [] [] each other = refl
run-each p [] (b ∷ after) each other = cond_false (p b) (b ∷ run_of p after) [] other
run-each p (b ∷ body) after each other =
    cond_true (p b) (b ∷ run_of p (body ++ after)) [] each.0 ∙ ap (λ l. b ∷ l) (run-each p body after each.1 other)

pub first_not_white : (b : ℕ) → begins_identifier b ≡ true → is_white b ≡ false
first_not_white b h = grind (arith, nat_tests)

pub first_is_byte : (b : ℕ) → begins_identifier b ≡ true → is_identifier_byte b ≡ true
first_is_byte b h = grind (arith, nat_tests)

pub first_no_backslash : (b : ℕ) → begins_identifier b ≡ true → (b == 92) ≡ false
first_no_backslash b h = grind (arith, nat_tests)

pub white_not_graphic : (b : ℕ) → is_white b ≡ true → is_graphic b ≡ false
white_not_graphic b h = grind (arith, nat_tests)

pub between_graphic : (b : ℕ) → (33 ≤ b) × (b ≤ 126) → is_graphic b ≡ true
between_graphic b h = grind (arith, nat_tests, h.0, h.1)

pub graphic_in_line : (b : ℕ) → is_graphic b ≡ true → (b == 10) ≡ false
graphic_in_line b h = grind (arith, nat_tests)

pub byte_in_line : (b : ℕ) → is_identifier_byte b ≡ true → (b == 10) ≡ false
byte_in_line b h = grind (arith, nat_tests)

-- what ends a word of any class ends an identifier
pub ends_identifier : (after : List ℕ) → BeginsNot is_word_byte after → BeginsNot is_identifier_byte after
ends_identifier [] h = tt
ends_identifier (b ∷ after) h = neither_left (is_identifier_byte b) (b == 63) h

pub each_graphic : (name : List ℕ) → AllByRecursion (λ b. (33 ≤ b) × (b ≤ 126)) name → Each is_graphic name
each_graphic [] h = tt
each_graphic (b ∷ name) h = (between_graphic b h.0, each_graphic name h.1)

-- an identifier by a test
abbrev all_bytes : List ℕ → Bool
all_bytes [] = true
all_bytes (b ∷ bytes) = is_identifier_byte b && all_bytes bytes

abbrev is_identifier : List ℕ → Bool
is_identifier [] = false
is_identifier (b ∷ bytes) = begins_identifier b && all_bytes bytes

each_byte : (bytes : List ℕ) → all_bytes bytes ≡ true → Each is_identifier_byte bytes
each_byte [] h = tt
each_byte (b ∷ bytes) h = let parts = and_both (is_identifier_byte b) (all_bytes bytes) h in (parts.0, each_byte bytes parts.1)

pub is_formed : (bytes : List ℕ) → is_identifier bytes ≡ true → IsIdentifier bytes
is_formed [] h = absurd (cc)
is_formed (b ∷ bytes) h = let parts = and_both (begins_identifier b) (all_bytes bytes) h in (parts.0, each_byte bytes parts.1)
