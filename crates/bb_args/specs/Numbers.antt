-- Numbers as words of a command line write them.
use Rattle.std.specs.Prelude.{◌&&◌, ℕ, Bool, nat_le, List, length, Option, Some, None, if◌then◌else◌}
use Rattle.std.specs.List.{list_all}
use Rattle.std.specs.Char.{is_ascii_digit}
use Rattle.std.specs.Str.Parse.{digits_value}

-- one to twenty decimal digits, and nothing else
abbrev pub is_number : List ℕ → Bool
is_number text = nat_le 1 (length text) && nat_le (length text) 20 && list_all is_ascii_digit text

-- the number that a text writes in decimal, where it lies within these bounds
abbrev pub number_within : ℕ → ℕ → List ℕ → Option ℕ
number_within least most text =
    let n = digits_value 10 text in
    if is_number text && (nat_le least n && nat_le n most) then Some n else None
