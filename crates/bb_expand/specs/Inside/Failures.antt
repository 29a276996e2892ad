-- Vectors at which tables fail.
use Rattle.std.specs.Prelude.{◌≡◌, ◌≢◌, ℕ, ◌<◌, Bool, List, length, slice_index, All, AllPairs}
use Rattle.bb_bits.specs.Tables.{TableBits}
use Rattle.bb_subst.specs.Distinguishing.{FailAt}
use Rattle.bb_net.specs.Equivalence.{IsVector}
use Rattle.bb_net.specs.Netlists.{Netlist}
use Rattle.bb_net.specs.Values.{bit_of}

-- a vector at which some output is wrong with the tables in the boxes
abbrev pub FailsAt : Netlist → Netlist → List TableBits → List Bool → Type 0
FailsAt spec imp tables x = IsVector imp x × FailAt spec imp tables x

-- each of them has a property, and they are pairwise different
pub record AreDistinctWith (P : List Bool → Type 0) (vectors : List (List Bool)) : Type 0 where
  pub each : All P vectors
  pub distinct : AllPairs ◌≢◌ vectors

-- the bits at places of one list are those at places of another, pair by pair
abbrev pub HasSameBits : List ℕ → List Bool → List ℕ → List Bool → Type 0
HasSameBits places bits others wanted = (j : ℕ) → j < length places → bit_of bits (slice_index places j) ≡ bit_of wanted (slice_index others j)

-- at some pair they differ
abbrev pub HasOtherBit : List ℕ → List Bool → List ℕ → List Bool → Type 0
HasOtherBit places bits others wanted = (j : ℕ) × (j < length places) × (bit_of bits (slice_index places j) ≢ bit_of wanted (slice_index others j))
