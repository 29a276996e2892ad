-- Tables that complete an implementation, and how many bits they have: for each box a bit for each of its output pins
-- and each list of its input bits.
use Rattle.std.specs.Prelude.{ℕ, ◌*◌, ◌≤◌, ◌^◌, List, length, sum_by}
use Rattle.bb_bits.specs.Tables.{TableBits}
use Rattle.bb_net.specs.Netlists.{Netlist, Pins}
use Rattle.bb_net.specs.Values.{FitBoxes}
use Rattle.bb_net.specs.Equivalence.{TablesMakeEquivalent}

-- the bits of tables for all boxes together
abbrev pub table_bits : List Pins → ℕ
table_bits boxes = sum_by (λ pins. length pins.outs * 2 ^ length pins.ins) boxes

-- they may be written down: they have at most 2^24 bits
abbrev pub HaveSmallTables : List Pins → Type 0
HaveSmallTables boxes = table_bits boxes ≤ 2 ^ 24

-- one table for each box, with which every output is right at every vector
pub record AreCompletion (spec imp : Netlist) (tables : List TableBits) : Type 0 where
  pub fit : FitBoxes tables imp.boxes
  pub agree : TablesMakeEquivalent spec imp tables
