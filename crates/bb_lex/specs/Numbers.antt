-- What digits mean (IEEE 1364-2005, 3.5.1). The first digit is the most significant, and so is the first bit.
use Rattle.std.specs.Prelude.{ℕ, zero, suc, ◌+◌, ◌*◌, ◌/◌, ◌%◌, ◌^◌, Bool, true, false, ◌||◌, ◌==◌, List, [], ◌∷◌, length, map, filter, if◌then◌else◌}
use Rattle.std.specs.Char.{digit_value, is_digit}

-- the number that digits spell: each counts for itself times the radix to the power of the number of digits after it
abbrev pub spelled : ℕ → List ℕ → ℕ
spelled radix [] = 0
spelled radix (d ∷ ds) = d * radix ^ length ds + spelled radix ds

-- the digits of a radix among bytes; the others, as _ and white space, are skipped
abbrev pub digits_of : ℕ → List ℕ → List ℕ
digits_of radix bytes = map digit_value (filter (λ b. is_digit b radix) bytes)

-- the number that bytes write in a radix
abbrev pub number : ℕ → List ℕ → ℕ
number radix bytes = spelled radix (digits_of radix bytes)

abbrev pub small_b : ℕ
small_b = 98

abbrev pub capital_b : ℕ
capital_b = 66

abbrev pub small_d : ℕ
small_d = 100

abbrev pub capital_d : ℕ
capital_d = 68

abbrev pub small_h : ℕ
small_h = 104

abbrev pub capital_h : ℕ
capital_h = 72

abbrev pub small_o : ℕ
small_o = 111

abbrev pub capital_o : ℕ
capital_o = 79

-- the radix of a base letter, in either case; 0 for another byte
abbrev pub radix_of : ℕ → ℕ
radix_of b =
    if b == small_b || b == capital_b then 2
    else (if b == small_o || b == capital_o then 8
    else (if b == small_d || b == capital_d then 10
    else (if b == small_h || b == capital_h then 16
    else 0)))

-- the last n bits of a number: those of weight 2 ^ (n - 1) down to 1
abbrev pub weighted_bits : ℕ → ℕ → List Bool
weighted_bits zero value = []
weighted_bits (suc n) value = (value / 2 ^ n % 2 == 1) ∷ weighted_bits n value

abbrev pub bit_value : Bool → ℕ
bit_value true = 1
bit_value false = 0
