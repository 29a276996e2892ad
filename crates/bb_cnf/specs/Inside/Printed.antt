-- What stays of a text to which nothing but bytes at its end was added.
use Rattle.std.specs.Prelude.{◌≡◌, ℕ, List, length, take}

-- new begins with old
abbrev pub IsKept : List ℕ → List ℕ → Type 0
IsKept old new = take (length old) new ≡ old
