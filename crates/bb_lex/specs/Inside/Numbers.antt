-- Numbers, read from the start.
use Rattle.std.specs.Prelude.{ℕ, ◌+◌, ◌-◌, ◌*◌, ◌%◌, ◌^◌, Bool, true, false, Option, Some, None, List, [], ◌∷◌, drop, ◌&&◌, ◌||◌, ◌==◌, nat_lt, nat_le, if◌then◌else◌}
use Rattle.std.specs.List.{list_all}
use Rattle.std.specs.Char.{is_ascii_digit, is_digit, digit_value}
use Rattle.bb_lex.specs.declared.token.Kind.{Kind}
use Rattle.bb_lex.specs.declared.token.Kind.TheVariants.{Sized, Plain}
use Rattle.bb_lex.specs.declared.token.Token.{Token}
use Rattle.bb_lex.specs.Bytes.{is_white, is_word_byte, is_decimal_byte, past}
use Rattle.bb_lex.specs.Numbers.{number, radix_of, weighted_bits}
use Rattle.bb_lex.specs.Cut.{bytes_of}
use Rattle.bb_lex.specs.Inside.Runs.{run_of, is_no_apostrophe}
use Rattle.bb_lex.specs.Inside.Found.{token_of}

-- the size of a sized number: the bytes before the apostrophe
abbrev pub size_of : List ℕ → ℕ
size_of bytes = number 10 (run_of is_no_apostrophe bytes)

-- the value of a base letter with digits of its base after it
abbrev pub based_value : List ℕ → ℕ
based_value [] = 0
based_value (letter ∷ digits) = number (radix_of letter) digits

-- the value of a sized number before it is fitted to the size: by the bytes after the apostrophe
abbrev pub value_of : List ℕ → ℕ
value_of bytes = based_value (drop 1 (past is_no_apostrophe bytes))

-- the bits of a sized number, read from its bytes
abbrev pub sized_bits_of : Token → List ℕ → List Bool
sized_bits_of token text = weighted_bits (size_of (bytes_of token text)) (value_of (bytes_of token text))

-- a value with one more decimal digit, if the byte is one
abbrev pub joined : ℕ → ℕ → ℕ
joined value b = if is_ascii_digit b then value * 10 + (b - 48) else value

-- the same in any radix, the value cut to 128 bits
abbrev pub joined_low : ℕ → ℕ → ℕ → ℕ
joined_low radix value b = if is_digit b radix then (value * radix % 2 ^ 128 + digit_value b) % 2 ^ 128 else value

-- a run of digits of the radix and _ that begins with a digit
abbrev pub is_digit_run : ℕ → List ℕ → Bool
is_digit_run radix [] = false
is_digit_run radix (b ∷ bytes) = is_digit b radix && list_all (λ c. is_digit c radix || c == 95) bytes

-- a decimal value is below 2 ^ 128
abbrev pub value_fits : ℕ → List ℕ → Bool
value_fits radix digits = if radix == 10 then nat_lt (number 10 digits) (2 ^ 128) else true

-- after the digits of a sized number
abbrev pub after_digits : ℕ → List ℕ → Option (List ℕ)
after_digits radix bytes =
    if is_digit_run radix (run_of is_word_byte bytes) && value_fits radix (run_of is_word_byte bytes) then Some (past is_word_byte bytes) else None

-- after the base letter and the digits of a sized number
abbrev pub after_base : List ℕ → Option (List ℕ)
after_base [] = None
after_base (b ∷ bytes) = after_digits (radix_of b) (past is_white bytes)

abbrev pub size_fits : List ℕ → Bool
size_fits run = nat_le 1 (number 10 run) && nat_le (number 10 run) 128

-- a number without a size, whose run of digits is read
abbrev pub plain_after : List ℕ → List ℕ → Option (Option Kind × List ℕ)
plain_after run after = if nat_lt (number 10 run) (2 ^ 31) then Some (Some Plain, after) else None

-- a sized number whose size and apostrophe are read
abbrev pub sized_after : List ℕ → List ℕ → Option (Option Kind × List ℕ)
sized_after run bytes = if size_fits run then token_of Sized (after_base bytes) else None

-- a number by its first run of digits, what follows the run, and what follows that after white space
abbrev pub number_after_digits : List ℕ → List ℕ → List ℕ → Option (Option Kind × List ℕ)
number_after_digits run after [] = plain_after run after
number_after_digits run after (b ∷ bytes) =
    if b == 39 then sized_after run bytes else plain_after run after

-- the number at the start
abbrev pub number_at : List ℕ → Option (Option Kind × List ℕ)
number_at bytes = number_after_digits (run_of is_decimal_byte bytes) (past is_decimal_byte bytes) (past is_white (past is_decimal_byte bytes))
