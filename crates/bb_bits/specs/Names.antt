-- A name is a list of bytes, the first byte first. Two names are the same where they have the same bytes in the same
-- places; their order is that of a dictionary, byte by byte, a name before each longer one that begins with it.
use Rattle.std.specs.Prelude.{◌==◌, ℕ, ◌+◌, ◌<◌, ◌≤◌, List, [], ◌∷◌, Bool, length}
use Rattle.std.specs.List.{AllByRecursion}
use lib.Pointwise.{pointwise}

-- the test by which two names are compared
abbrev pub same_name : List ℕ → List ℕ → Bool
same_name = pointwise ◌==◌

-- a name that can be printed: one or more of the bytes 33 to 126
abbrev pub IsPrintable : List ℕ → Type 0
IsPrintable name = (0 < length name) × AllByRecursion (λ b. (33 ≤ b) × (b ≤ 126)) name

-- each name with its place, counted from a number on
abbrev pub placed : ℕ → List (List ℕ) → List (List ℕ × ℕ)
placed k [] = []
placed k (n ∷ ns) = (n, k) ∷ placed (k + 1) ns
