-- The bits of a net (IEEE 1364-2005, 4.3.1 and 5.2.1): with a range [left:right] it has a bit for each index from left to right,
-- and the leftmost is the most significant; without a range it has one bit.
use Rattle.std.specs.Prelude.{ℕ, ◌+◌, ◌-◌, Bool, false, ◌&&◌, ◌||◌, nat_le, Option, Some, None}
use Rattle.bb_ast.specs.declared.module.Range.{Range}

-- how far two indices lie apart
abbrev pub distance : ℕ → ℕ → ℕ
distance i j = (i - j) + (j - i)

-- how many bits there are
abbrev pub range_width : Option Range → ℕ
range_width None = 1
range_width (Some r) = distance r.left r.right + 1

-- the place of an index, counted from the leftmost on
abbrev pub place_of : Option Range → ℕ → ℕ
place_of None i = 0
place_of (Some r) i = distance r.left i

-- the index is one of the range
abbrev pub is_index : Range → ℕ → Bool
is_index r i = (nat_le r.left i && nat_le i r.right) || (nat_le r.right i && nat_le i r.left)

-- the net has bits from i to j, and i is not to the right of j
abbrev pub has_bits : Option Range → ℕ → ℕ → Bool
has_bits None i j = false
has_bits (Some r) i j = is_index r i && is_index r j && nat_le (distance r.left i) (distance r.left j)
