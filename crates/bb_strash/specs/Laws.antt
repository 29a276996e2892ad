-- Laws of the bits of cells.
use Rattle.std.specs.Prelude.{◌≡◌, ℕ, ◌<◌, ◌≤◌, Bool, true, false, List, [], length}
use Rattle.bb_net.specs.Netlists.{Netlist, IsNetlist, cell_at}
use Rattle.bb_strash.specs.Inside.Extensions.{bit, gate_bit, Extends}

-- a cell's bit is its gate's function of the bits that it reads
abbrev pub BitsAreGates : Type 0
BitsAreGates = (net : Netlist) → IsNetlist net → net.boxes ≡ [] → (x : List Bool) (place : ℕ)
    → place < length net.cells → bit net x place ≡ gate_bit x (bit net x) (cell_at net.cells place)

-- the first two cells are 0 and 1
abbrev pub ConstantsAreBits : Type 0
ConstantsAreBits = (net : Netlist) → IsNetlist net → net.boxes ≡ []
    → (2 ≤ length net.cells) × ((x : List Bool) → (bit net x 0 ≡ false) × (bit net x 1 ≡ true))

-- cells that are added change no bit
abbrev pub BitsStay : Type 0
BitsStay = (old new : Netlist) (most : ℕ) → Extends old new most → (x : List Bool) (place : ℕ)
    → place < length old.cells → bit new x place ≡ bit old x place
