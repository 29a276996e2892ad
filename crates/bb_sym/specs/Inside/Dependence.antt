-- The variables on which a table depends.
use Rattle.std.specs.Prelude.{◌≡◌, ◌<◌, ℕ, Bool, true, false, List, length, slice_set, slice_index_or}
use Rattle.bb_bits.specs.Truth.{Truth, truth_at}
use Rattle.bb_uniq.specs.Inside.Nodes.{NodeStore, IsRef}
use Rattle.bb_uniq.specs.Inside.Meaning.{truth_of}

-- a table of n variables does not depend on v: at points that differ only in v it has one bit
abbrev pub IsIndependent : ℕ → Truth → ℕ → Type 0
IsIndependent n t v = (point : List Bool) → length point ≡ n → truth_at t (slice_set point v false) ≡ truth_at t (slice_set point v true)

-- of the first variables, the table depends at most on those that are marked
abbrev pub DependsAtMost : ℕ → Truth → List Bool → Type 0
DependsAtMost n t marked = (v : ℕ) → v < length marked → slice_index_or marked v false ≡ false → IsIndependent n t v

-- so does each diagram that was seen
abbrev pub AreSeen : NodeStore → List Bool → List Bool → Type 0
AreSeen s seen marked = (r : ℕ) → IsRef s r → slice_index_or seen r false ≡ true → DependsAtMost s.vars (truth_of s r) marked
