-- Laws of filled netlists: there is one, its bits are those that the tables give, and a pair stays one.
use Rattle.std.specs.Prelude.{◌≡◌, ◌↔◌, ℕ, ◌+◌, ◌<◌, ◌≤◌, ◌^◌, Bool, List, [], length}
use Rattle.bb_bits.specs.Tables.{TableBits}
use Rattle.bb_net.specs.Equivalence.{AllRight, SomeWrong}
use Rattle.bb_net.specs.Completions.{table_bits}
use Rattle.bb_net.specs.Netlists.{Netlist, IsNetlist}
use Rattle.bb_net.specs.Pairs.{NetPair, IsPair}
use Rattle.bb_net.specs.Values.{bit_of, flat, flat_with, FitBoxes}
use Rattle.bb_subst.specs.Filled.{IsFilled}
use Rattle.bb_subst.specs.Distinguishing.{AreEquivalentAt, FailAt}

-- a netlist may be filled with any tables that fit its boxes, where there are numbers for the places of all cells
abbrev pub FilledExist : Type 0
FilledExist = (old : Netlist) (tables : List TableBits) → IsNetlist old → FitBoxes tables old.boxes → length old.cells + table_bits old.boxes < 2 ^ 32
    → (new : Netlist) × (at : ℕ → ℕ) × IsNetlist new × IsFilled old tables new at

-- each cell has at its new place the bit that it has with the tables in the boxes
abbrev pub FilledHaveBits : Type 0
FilledHaveBits = (old new : Netlist) (tables : List TableBits) (at : ℕ → ℕ) → IsNetlist old → IsNetlist new → FitBoxes tables old.boxes → IsFilled old tables new at
    → (x : List Bool) (k : ℕ) → k < length old.cells → bit_of (flat new x []) (at k) ≡ bit_of (flat_with old x tables) k

-- so its outputs are right where the tables agree
abbrev pub FilledAreRight : Type 0
FilledAreRight = (spec old new : Netlist) (tables : List TableBits) (at : ℕ → ℕ) → IsNetlist old → IsNetlist new → FitBoxes tables old.boxes → IsFilled old tables new at
    → (x : List Bool) → AllRight spec new x (flat new x []) ↔ AreEquivalentAt spec old tables x

-- and some output is wrong where they fail
abbrev pub FilledAreWrong : Type 0
FilledAreWrong = (spec old new : Netlist) (tables : List TableBits) (at : ℕ → ℕ) → IsNetlist old → IsNetlist new → FitBoxes tables old.boxes → IsFilled old tables new at
    → (x : List Bool) → SomeWrong spec new x (flat new x []) ↔ FailAt spec old tables x

-- the netlist makes a pair with the specification as the old one did, where there is room for its cells
abbrev pub FilledArePairs : Type 0
FilledArePairs = (p : NetPair) (new : Netlist) (tables : List TableBits) (at : ℕ → ℕ) → IsPair p → IsNetlist new → IsFilled p.imp tables new at
    → length p.imp.cells ≤ 6000000 → table_bits p.imp.boxes ≤ 2 ^ 20 → IsPair (record p { imp = new; boxes = []; kinds = [] })
