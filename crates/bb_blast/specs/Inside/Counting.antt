-- Numbers of 32 bits. Places and bits are counted in them, and where a number would be larger it is the largest of
-- them: so there is one for each sum, and no number of a design that is small is changed.
use Rattle.std.specs.Prelude.{ℕ, ◌+◌, ◌-◌, ◌^◌, min}

-- a number, or the largest of 32 bits if it is larger
unfoldable pub capped : ℕ → ℕ
capped n = min n (2 ^ 32 - 1)

-- the sum of a number and an offset
abbrev pub after : ℕ → ℕ → ℕ
after number offset = capped (number + offset)
