-- Numbers and literals as the DIMACS format writes them. A number has from 1 to 10 decimal digits, zeros before it
-- included. A literal is the number of a variable, with `-` before it where the variable is negated.
use Rattle.std.specs.Prelude.{ℕ, ◌==◌, Bool, ◌&&◌, nat_le, Option, Some, None, option_map, option_and_then, List, length, drop, slice_index, if◌then◌else◌}
use Rattle.std.specs.List.{list_all}
use Rattle.std.specs.Char.{is_ascii_digit}
use Rattle.std.specs.Str.Parse.{digits_value}
use Rattle.bb_cnf.specs.declared.clauses.Lit.{Lit}
use Rattle.bb_cnf.specs.Clauses.{positive, negated}

-- 1 to 10 decimal digits
abbrev pub is_numeral : List ℕ → Bool
is_numeral word = list_all is_ascii_digit word && nat_le 1 (length word) && nat_le (length word) 10

-- the number that a word writes
abbrev pub numeral_value : List ℕ → Option ℕ
numeral_value word = if is_numeral word then Some (digits_value 10 word) else None

-- the variable that a word writes: variables count from 1
abbrev pub variable_of : List ℕ → Option ℕ
variable_of word = option_and_then (λ n. if nat_le 1 n then Some n else None) (numeral_value word)

-- the literal that a word writes; 45 is `-`
abbrev pub literal_of : List ℕ → Option Lit
literal_of word =
    if slice_index word 0 == 45
    then option_map negated (variable_of (drop 1 word))
    else option_map positive (variable_of word)
