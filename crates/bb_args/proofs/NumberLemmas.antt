-- What a parse says of a word of digits.
use Rattle.std.proofs.Common.{◌≡◌, ◌<◌, ◌^◌, ℕ, true, List, [], ◌∷◌, length, None, Err, ap, arith, inl, inr, refl}
use Rattle.std.specs.Prelude.{◌&&◌}
use Rattle.std.specs.Char.{is_ascii_digit}
use Rattle.std.specs.List.{list_all}
use Rattle.std.specs.Str.{all_ascii_digits}
use Rattle.std.specs.Str.Parse.{ParsesUnsigned, digits_value}
use Rattle.std.proofs.lemmas.Bool.{cases_lt}
use Rattle.std.proofs.lemmas.Str.Parse.{numerals_by_value, parse_digits, tells_all_ascii_digits}
use Rattle.bb_args.specs.Numbers.{is_number, number_within}

same_digits : (text : List ℕ) → list_all is_ascii_digit text ≡ all_ascii_digits text
same_digits [] = refl
same_digits (b ∷ bs) = ap (λ t. is_ascii_digit b && t) (same_digits bs)

-- a word of digits that is no number of k bits is past every bound of k bits
pub number_within-past : (k least most : ℕ) (text : List ℕ) → ParsesUnsigned {E = ℕ} k 10 text (Err 0) → is_number text ≡ true → most < 2 ^ k → number_within least most text ≡ None
number_within-past k least most text parses number bound =
    let digits : all_ascii_digits text ≡ true = rw (← same_digits text) (grind (arith, number)) in
    let some : 0 < length text = grind (arith, number) in
    let no = parse_digits (numerals_by_value _ tells_all_ascii_digits) {E = ℕ} k text (Err 0) parses digits in
    elim (cases_lt (digits_value 10 text) (2 ^ k)) [
      | inl under ↦ absurd (no (some, under))
      | inr over ↦ grind (arith, over, bound)
    ]
