-- Sets of truth tables, and how many members they have. A set is given by what its members satisfy; a list in which no two
-- entries are equal counts its members.
use Rattle.std.specs.Prelude.{◌≡◌, ◌≢◌, ◌<◌, ◌≤◌, ◌↔◌, ℕ, List, length, All, AllPairs, Contains}
use Rattle.bb_bits.specs.Truth.{Truth}

-- no two entries are equal
abbrev pub AreDistinct : List Truth → Type 0
AreDistinct ts = AllPairs ◌≢◌ ts

-- the set has n members: a list without repetition has exactly its members and the length n
abbrev pub HasSize : (Truth → Type 0) → ℕ → Type 0
HasSize P n = (ts : List Truth) × AreDistinct ts × ((t : Truth) → Contains ts t ↔ P t) × (length ts ≡ n)

-- the set has more than n members
abbrev pub HasMoreThan : (Truth → Type 0) → ℕ → Type 0
HasMoreThan P n = (ts : List Truth) × AreDistinct ts × All P ts × (n < length ts)

-- the set has at most n members
abbrev pub HasAtMost : (Truth → Type 0) → ℕ → Type 0
HasAtMost P n = (ts : List Truth) → AreDistinct ts → All P ts → length ts ≤ n
