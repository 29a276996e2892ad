-- Operations on bits that the standard library has no word for.
use Rattle.std.specs.Prelude.{ℕ, ◌-◌, Bool, not, if◌then◌else◌, List, length, drop}

-- 1 where the bits differ
abbrev pub xor : Bool → Bool → Bool
xor a b = if a then not b else b

-- the n low bits, where the most significant comes first
abbrev pub low_bits : {A : Type 0} → ℕ → List A → List A
low_bits n bits = drop (length bits - n) bits
