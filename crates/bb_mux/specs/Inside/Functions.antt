-- Cells that compute the functions of diagrams.
use Rattle.std.specs.Prelude.{◌≡◌, ℕ, ◌+◌, ◌*◌, ◌<◌, ◌≤◌, Bool, List, length, take}
use Rattle.bb_bits.specs.Truth.{Truth, IsBeadOfAny, truth_at}
use Rattle.bb_bits.specs.TruthSets.{HasAtMost}
use Rattle.bb_net.specs.Netlists.{Netlist}
use Rattle.bb_strash.specs.Inside.Extensions.{bit}
use Rattle.bb_uniq.specs.Inside.Nodes.{NodeStore}
use Rattle.bb_uniq.specs.Inside.Meaning.{truth_of}
use Rattle.bb_quant.specs.Inside.LeastPoints.{BeginsAs}

-- a table of n variables depends on none but the first k: points that begin with the same k bits have the same bit
abbrev pub DependsOnFirst : ℕ → ℕ → Truth → Type 0
DependsOnFirst n k t = (p q : List Bool) → length p ≡ n → BeginsAs k p q → truth_at t p ≡ truth_at t q

-- the cell at a place has at each point the bit of the diagram r, where the inputs are the first variables
pub record Computes (s : NodeStore) (net : Netlist) (r place : ℕ) : Type 0 where
  pub there : place < length net.cells
  pub same : (point : List Bool) → length point ≡ s.vars → bit net (take net.inputs point) place ≡ truth_at (truth_of s r) point

-- beside constants and inputs a netlist has at most two cells for each bead of these tables
abbrev pub HasFewCells : List Truth → Netlist → Type 0
HasFewCells ts net = (n : ℕ) → HasAtMost (IsBeadOfAny ts) n → length net.cells ≤ net.inputs + 2 + 2 * n
