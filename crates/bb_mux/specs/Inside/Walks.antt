-- A walk over a store of reduced ordered diagrams (Knuth, The Art of Computer Programming, volume 4A, section 7.1.4), in
-- which each node becomes cells of a netlist once.
use Rattle.std.specs.Prelude.{◌≡◌, ℕ, ◌+◌, ◌*◌, ◌<◌, ◌≤◌, ◌^◌, List, [], ◌++◌, length, All, Option, Some, None, slice_index_or}
use Rattle.bb_bits.specs.Truth.{Truth, IsBead, IsBeadOf, IsBeadOfAny, lifted}
use Rattle.bb_bits.specs.TruthSets.{AreDistinct}
use Rattle.bb_net.specs.Netlists.{Netlist}
use Rattle.bb_strash.specs.Inside.Extensions.{Extends}
use Rattle.bb_uniq.specs.Inside.Nodes.{NodeStore, IsRef}
use Rattle.bb_uniq.specs.Inside.Meaning.{truth_of}
use Rattle.bb_mux.specs.Inside.Functions.{Computes}

-- the diagram r has its place
abbrev pub IsPlaced : List (Option ℕ) → ℕ → ℕ → Type 0
IsPlaced places r place = slice_index_or places r None ≡ Some place

-- the bead of a node that has a place
abbrev pub IsPlacedBead : NodeStore → List (Option ℕ) → Truth → Type 0
IsPlacedBead s places b = (r place v : ℕ) × IsRef s r × IsPlaced places r place × (truth_of s r ≡ lifted v b)

-- these beads are distinct, each is that of a node that has a place, and beside constants and inputs there are at most
-- two cells for each
pub record AreCounted (s : NodeStore) (net : Netlist) (places : List (Option ℕ)) (beads : List Truth) : Type 0 where
  pub distinct : AreDistinct beads
  pub are_beads : All IsBead beads
  pub placed : All (IsPlacedBead s places) beads
  pub few : length net.cells ≤ net.inputs + 2 + 2 * length beads

-- what holds between the steps of a walk: each node that has a place is computed there
pub record IsWalked (s : NodeStore) (net : Netlist) (places : List (Option ℕ)) : Type 0 where
  pub boxes : net.boxes ≡ []
  pub room : net.inputs + 2 + 2 * length s.nodes < 2 ^ 32
  pub all : length places ≡ length s.nodes + 2
  pub computed : (r place : ℕ) → IsPlaced places r place → Computes s net r place
  pub counted : (beads : List Truth) × AreCounted s net places beads

-- a diagram with the table t was walked: cells were added, and the beads of new places are beads of t
pub record Walks (s : NodeStore) (t : Truth) (old new : Netlist) (before after : List (Option ℕ)) : Type 0 where
  pub most : ℕ
  pub extends : Extends old new most
  pub walked : IsWalked s new after
  pub counted : (beads : List Truth) → AreCounted s old before beads
      → (more : List Truth) × All (λ b. IsBeadOf b t) more × AreCounted s new after (more ++ beads)

-- some of the diagrams with the tables ts were walked
pub record AreWalked (s : NodeStore) (ts : List Truth) (net : Netlist) (places : List (Option ℕ)) : Type 0 where
  pub walked : IsWalked s net places
  pub beads : List Truth
  pub counted : AreCounted s net places beads
  pub of_tables : All (IsBeadOfAny ts) beads
