-- A window of a netlist at a cell, cut at cells that are its inputs, as netlists are cut where cones are too large
-- (Kuehlmann and Krohm, Equivalence checking using cuts and heaps, 1997). Its one output is the cell; where it is cut
-- is left open.
use Rattle.std.specs.Prelude.{◌≡◌, ℕ, Bool, List, [], length, map}
use Rattle.bb_net.specs.Equivalence.{out_bit}
use Rattle.bb_net.specs.Netlists.{Netlist}
use Rattle.bb_net.specs.Values.{flat}
use Rattle.bb_strash.specs.Inside.Extensions.{bit}

pub record IsWindow (net : Netlist) (place : ℕ) (part : Netlist) (leaves : List ℕ) : Type 0 where
  pub inputs : part.inputs ≡ length leaves
  pub boxes : part.boxes ≡ []
  pub count : length part.outs ≡ 1
  -- where the inputs have the bits of the cells at which it is cut, the output has the bit of the cell
  pub same : (x : List Bool) → out_bit part (flat part (map (bit net x) leaves) []) 0 ≡ bit net x place
