-- Points of a Boolean function: a bit for each variable, the first one first. They are ordered as the numbers that they
-- spell, so 0 comes before 1 and the first variable is the most significant.
use Rattle.std.specs.Prelude.{◌≡◌, ◌≤◌, ℕ, Bool, List, length, take}
use Rattle.bb_bits.specs.Numbers.{number_of}
use Rattle.bb_bits.specs.Truth.{Truth, truth_at}

-- a point q that has the first bits of p
abbrev pub BeginsAs : ℕ → List Bool → List Bool → Type 0
BeginsAs k p q = (length q ≡ length p) × (take k q ≡ take k p)

-- of the points that begin as `given` does and have the bit in the table t, p is the least
pub record IsLeastPoint (t : Truth) (want : Bool) (k : ℕ) (given p : List Bool) : Type 0 where
  pub begins : BeginsAs k given p
  pub bit : truth_at t p ≡ want
  pub least : (q : List Bool) → BeginsAs k given q → truth_at t q ≡ want → number_of p ≤ number_of q
