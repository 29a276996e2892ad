-- What a word looks like, to clap and by the definition of a command line.
use Rattle.std.proofs.Common.{◌≡◌, ◌==◌, ◌∙◌, ℕ, Bool, true, false, List, [], ◌∷◌, None, Some, ap, refl, sym, arith}
use Rattle.std.specs.Str.{IsUtf8, bytes_eq, chars}
use Rattle.std.specs.Char.{encode_utf8}
use Rattle.std.proofs.lemmas.Str.{IsUtf8-past_char, encodes-chars}
use lib.Utf8.{encodes}
use Rattle.clap.specs.Lexer.{long_of, name_and_value, short_of}
use Rattle.bb_args.specs.CommandLines.{Text, after_dashes, is_dashed}
use Rattle.bb_args.proofs.ClapTurns.{dashes}

pub data Look (word : Text) : Type 0 where
  -- a file, or a value
  plain : bytes_eq word dashes ≡ false → long_of word ≡ None → short_of word ≡ None → after_dashes word ≡ None → is_dashed word ≡ false → Look word
  -- `--`
  ends : bytes_eq word dashes ≡ true → after_dashes word ≡ Some [] → is_dashed word ≡ true → Look word
  -- `--name` or `--name=value`
  named : (d : ℕ) (ds : Text) → bytes_eq word dashes ≡ false → long_of word ≡ Some (name_and_value (d ∷ ds)) → after_dashes word ≡ Some (d ∷ ds) → is_dashed word ≡ true → Look word
  -- `-abc`
  lettered : (c : ℕ) (cs : Text) → bytes_eq word dashes ≡ false → long_of word ≡ None → short_of word ≡ Some (c ∷ cs) → after_dashes word ≡ None → is_dashed word ≡ true → word ≡ 45 ∷ c ∷ cs → Look word

pub look : (word : Text) → Look word
look [] = plain refl refl refl refl refl
look (b ∷ []) = by (b == 45) refl
  where
    by : (p : Bool) → (b == 45) ≡ p → Look (b ∷ [])
    by true e = plain (rw e refl) (rw e refl) (rw e refl) refl refl
    by false e = plain (rw e refl) (rw e refl) (rw e refl) refl refl
look (b ∷ c ∷ rest) = by (b == 45) refl (c == 45) refl rest
  where
    by : (p : Bool) → (b == 45) ≡ p → (q : Bool) → (c == 45) ≡ q → (rest : Text) → Look (b ∷ c ∷ rest)
    by true e true f [] = ends (rw (e, f) refl) (rw (e, f) refl) e
    by true e true f (d ∷ ds) = named d ds (rw (e, f) refl) (rw (e, f) refl) (rw (e, f) refl) e
    by true e false f rest = lettered c rest (rw (e, f) refl) (rw (e, f) refl) (rw (e, f) refl) (rw (e, f) refl) e (let is : b ≡ 45 = grind (arith, e) in ap (λ x. x ∷ c ∷ rest) is)
    by false e q f rest = plain (rw e refl) (rw e refl) (rw e refl) (rw e refl) e

-- after one minus sign there is a letter
pub letters : (c : ℕ) (cs : Text) → IsUtf8 (45 ∷ c ∷ cs) → (x : ℕ) × (xs : List ℕ) × (chars (c ∷ cs) ≡ x ∷ xs)
unfolding encode_utf8
letters c cs is = by (chars (c ∷ cs)) refl
  where
    rest : IsUtf8 (c ∷ cs)
    rest = IsUtf8-past_char (45 ∷ c ∷ cs) (c ∷ cs) 45 is refl

    by : (found : List ℕ) → chars (c ∷ cs) ≡ found → (x : ℕ) × (xs : List ℕ) × (chars (c ∷ cs) ≡ x ∷ xs)
    by [] e = let none : encodes [] ≡ c ∷ cs = ap encodes (sym e) ∙ encodes-chars (c ∷ cs) rest in cc none
    by (x ∷ xs) e = (x, xs, e)
