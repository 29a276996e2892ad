-- Laws of the crates below on which the laws of expansions rest.
use Rattle.std.specs.Prelude.{◌≡◌, ◌↔◌, ℕ, ◌<◌, ◌^◌, Bool, List, length, map, All, Contains, slice_index}
use Rattle.bb_bits.specs.Numbers.{number_of, bits_of}
use Rattle.bb_bits.specs.Tables.{TableBits}
use Rattle.bb_net.specs.Kinds.{AreNumberedInOrder, FitKinds, first_places, representatives, per_box}
use Rattle.bb_net.specs.Netlists.{Netlist, Pins, IsOrdered, box_at}
use Rattle.bb_net.specs.Values.{FitBoxes, IsValue, table_at, value_of}

-- numbers and the bits that spell them
pub record Numbering : Type 0 where
  pub below : (bits : List Bool) → number_of bits < 2 ^ length bits
  pub width : (n number : ℕ) → length (bits_of n number) ≡ n
  pub spelled : (n number : ℕ) → number < 2 ^ n → number_of (bits_of n number) ≡ number
  pub once : (bits : List Bool) → bits_of (length bits) (number_of bits) ≡ bits

-- a netlist has a value, and only one
abbrev pub ValueExists : Type 0
ValueExists = (net : Netlist) (x : List Bool) (box : ℕ → ℕ → List Bool → Bool) → IsOrdered net → IsValue net x box (value_of net x box)

abbrev pub ValueIsUnique : Type 0
ValueIsUnique = (net : Netlist) (x : List Bool) (box : ℕ → ℕ → List Bool → Bool) (bits : List Bool) → IsOrdered net → IsValue net x box bits → bits ≡ value_of net x box

-- boxes of one sharing class are shown by the first of them, and have one table
pub record Sharing : Type 0 where
  pub count : (kinds : List ℕ) (boxes : List Pins) (k : ℕ) → AreNumberedInOrder kinds → length boxes ≡ length kinds → (k < length (representatives kinds boxes)) ↔ Contains kinds k
  pub inputs : (kinds : List ℕ) (boxes : List Pins) (b : ℕ) → FitKinds kinds boxes → b < length boxes → length (box_at (representatives kinds boxes) (slice_index kinds b)).ins ≡ length (box_at boxes b).ins
  pub outputs : (kinds : List ℕ) (boxes : List Pins) (b : ℕ) → FitKinds kinds boxes → b < length boxes → length (box_at (representatives kinds boxes) (slice_index kinds b)).outs ≡ length (box_at boxes b).outs
  pub firsts : (kinds : List ℕ) (boxes : List Pins) → AreNumberedInOrder kinds → length boxes ≡ length kinds → representatives kinds boxes ≡ map (box_at boxes) (first_places kinds)
  pub there : (kinds : List ℕ) → AreNumberedInOrder kinds → All (λ b. b < length kinds) (first_places kinds)
  pub fit : (kinds : List ℕ) (boxes : List Pins) (tables : List TableBits) → FitKinds kinds boxes → FitBoxes tables (representatives kinds boxes) → FitBoxes (per_box kinds tables) boxes
  pub at : (kinds : List ℕ) (tables : List TableBits) (b : ℕ) → b < length kinds → table_at (per_box kinds tables) b ≡ table_at tables (slice_index kinds b)
