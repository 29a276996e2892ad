-- How a netlist is copied into another cell by cell.
use Rattle.std.specs.Prelude.{◌≡◌, ℕ, ◌<◌, Bool, List, length, slice_index}
use Rattle.bb_net.specs.Netlists.{Netlist}
use Rattle.bb_strash.specs.Inside.Extensions.{bit}

-- the first cells of a netlist have at these places of another, at each vector, the bits that they have
pub record AreCopied (source : Netlist) (count : ℕ) (net : Netlist) (places : List ℕ) : Type 0 where
  pub long : length places ≡ count
  pub there : (k : ℕ) → k < count → slice_index places k < length net.cells
  pub same : (x : List Bool) (k : ℕ) → k < count → bit net x (slice_index places k) ≡ bit source x k
