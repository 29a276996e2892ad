-- Bits as binary numbers: a list of bits spells a number, the most significant bit first.
use Rattle.std.specs.Prelude.{ℕ, zero, suc, ◌+◌, ◌-◌, ◌^◌, Bool, if◌then◌else◌, nat_le, List, [], ◌∷◌, length}

-- the number that bits spell
abbrev pub number_of : List Bool → ℕ
number_of [] = 0
number_of (b ∷ bits) = if b then 2 ^ length bits + number_of bits else number_of bits

-- n bits that spell a number
abbrev pub bits_of : ℕ → ℕ → List Bool
bits_of zero number = []
bits_of (suc n) number = nat_le (2 ^ n) number ∷ bits_of n (if nat_le (2 ^ n) number then number - 2 ^ n else number)
