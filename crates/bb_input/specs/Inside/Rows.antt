-- A row of the table of a box, as a least point of a truth table: the box's input pins are its first variables, the
-- output pins follow, and it is 0 at the bits that suit.
use Rattle.std.specs.Prelude.{◌≡◌, ◌<◌, ℕ, Bool, false, List, length, take, drop}
use Rattle.bb_bits.specs.Numbers.{number_of}
use Rattle.bb_bits.specs.Tables.{TableBits, row_of}
use Rattle.bb_bits.specs.Truth.{Truth, truth_at}
use Rattle.bb_quant.specs.Inside.LeastPoints.{IsLeastPoint}

-- outs are the m bits after ins in the least point at which the table of n variables is 0
pub record IsLeastRow (n : ℕ) (t : Truth) (m : ℕ) (ins outs : List Bool) : Type 0 where
  pub point : List Bool
  pub whole : length point ≡ n
  pub begins : take (length ins) point ≡ ins
  pub least : IsLeastPoint t false (length ins) point point
  pub row : outs ≡ take m (drop (length ins) point)

-- the first rows of a table are the least ones, each after the bits of its number
abbrev pub HasLeastRows : ℕ → Truth → TableBits → ℕ → Type 0
HasLeastRows n t bits count = (ins : List Bool) → length ins ≡ bits.inputs → number_of ins < count → IsLeastRow n t bits.outputs ins (row_of bits (number_of ins))

-- whatever the first bits of a point are, the table of n variables is 0 at some such point
abbrev pub IsFalseForEach : ℕ → Truth → ℕ → Type 0
IsFalseForEach n t inputs = (ins : List Bool) → length ins ≡ inputs → (q : List Bool) × (length q ≡ n) × (take inputs q ≡ ins) × (truth_at t q ≡ false)
