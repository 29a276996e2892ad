-- What begins with the stem is a simple identifier, and no reserved word.
use Rattle.std.proofs.Common.{◌≡◌, ℕ, zero, suc, ◌+◌, ◌/◌, ◌%◌, ◌<◌, Bool, true, false, None, List, [], ◌∷◌, ◌++◌, replicate, refl, sym, subst, arith, add-one}
use Rattle.std.specs.Prelude.{◌==◌, decimal, nat_lt, if◌then◌else◌}
use Rattle.std.specs.Fmt.{digits, digits_onto, digit_glyph}
use Rattle.std.proofs.lemmas.Bool.Decides.{nat_tests}
use Rattle.bb_lex.specs.Bytes.{is_identifier_byte, Each, BeginsNot}
use Rattle.bb_lex.specs.Pieces.{IsIdentifier}
use Rattle.bb_lex.specs.Words.{reserved, keyword_of}
use Rattle.bb_readback.proofs.Classes.{all-append}

-- digits are identifier bytes
digit_byte : (d : ℕ) → d < 10 → is_identifier_byte (digit_glyph false d) ≡ true
digit_byte d low = by (nat_lt d 10) refl
  where
    by : (b : Bool) → nat_lt d 10 ≡ b → is_identifier_byte (if b then 48 + d else (if false then 55 + d else 87 + d)) ≡ true
    by true is = grind (arith, nat_tests, low)
    by false is = absurd (grind (arith, is, low))

digit_bytes : (k n : ℕ) (acc : List ℕ) → Each is_identifier_byte acc → Each is_identifier_byte (digits_onto k 10 false n acc)
digit_bytes zero n acc all = all
digit_bytes (suc k) n acc all =
    by (n / 10 == 0) (digit_byte (n % 10) (omega arith), all) (digit_bytes k (n / 10) (digit_glyph false (n % 10) ∷ acc))
  where
    More : Type 0
    More = Each is_identifier_byte (digit_glyph false (n % 10) ∷ acc)

    by : (b : Bool) → More → (More → Each is_identifier_byte (digits_onto k 10 false (n / 10) (digit_glyph false (n % 10) ∷ acc)))
        → Each is_identifier_byte (if b then digit_glyph false (n % 10) ∷ acc else digits_onto k 10 false (n / 10) (digit_glyph false (n % 10) ∷ acc))
    by true more rest = more
    by false more rest = rest more

pub decimal_bytes : (n : ℕ) → Each is_identifier_byte (decimal n)
unfolding digits
decimal_bytes n = digit_bytes 64 n [] tt

-- no reserved word begins with _
no_keyword : (rest : List ℕ) → keyword_of (95 ∷ rest) ≡ None
unfolding keyword_of reserved
no_keyword rest = refl

run_bytes : (n : ℕ) → Each is_identifier_byte (replicate n 95)
run_bytes zero = tt
run_bytes (suc n) = (refl, run_bytes n)

-- a stem of names
pub record IsStem (stem : List ℕ) : Type 0 where
  pub first : (rest : List ℕ) → BeginsNot (λ b. b == 42) (stem ++ rest)
  pub name : (rest : List ℕ) → Each is_identifier_byte rest → IsIdentifier (stem ++ rest)
  pub free : (rest : List ℕ) → keyword_of (stem ++ rest) ≡ None

long_stem : (n : ℕ) → IsStem (replicate (suc n) 95)
long_stem n = record {
  first = λ rest. refl;
  name = λ rest each. (refl, all-append (λ b. is_identifier_byte b ≡ true) (replicate n 95) rest (run_bytes n) each);
  free = λ rest. no_keyword (replicate n 95 ++ rest);
}

pub is_stem : (n : ℕ) → IsStem (replicate (n + 1) 95)
is_stem n = subst (λ (k : ℕ). IsStem (replicate k 95)) (sym (add-one n)) (long_stem n)
