-- Laws of isomorphic netlists.
pub mod Isomorphism
pub mod Formulas
pub mod LooseFormulas
use Rattle.std.specs.Prelude.{◌≡◌, ℕ, ◌<◌, Bool, List, length}
use Rattle.bb_net.specs.Netlists.{Netlist, cell_at, IsNetlist}
use Rattle.bb_net.specs.Rearrangements.{IsRearranged}
use Rattle.bb_net.specs.Ternary.{tern, tern_of}
use Rattle.bb_net.specs.Values.{bit_of, value_of}
use Rattle.bb_iso.specs.Laws.Isomorphism.{AreIsomorphic}
use Rattle.bb_iso.specs.Laws.Formulas.{cell_formula, formula_at}

-- a formula is that of its cell, by those of the cells that this one reads
abbrev pub FormulasAreOfCells : Type 0
FormulasAreOfCells = (net : Netlist) → IsNetlist net → (k : ℕ) → k < length net.cells → formula_at net.cells k ≡ cell_formula (formula_at net.cells) (cell_at net.cells k)

-- where one is isomorphic to another, so is that to the first
abbrev pub IsomorphismIsMutual : Type 0
IsomorphismIsMutual = (a b : Netlist) → AreIsomorphic a b → AreIsomorphic b a

-- each cell of the one has a cell of the same formula in the other
abbrev pub IsomorphicNetsHaveCells : Type 0
IsomorphicNetsHaveCells = (a b : Netlist) → IsNetlist a → IsNetlist b → AreIsomorphic a b → (k : ℕ) → k < length a.cells → (m : ℕ) × (m < length b.cells) × (formula_at a.cells k ≡ formula_at b.cells m)

-- cells of one formula have one bit, whatever the inputs are and whatever the boxes give, where these give the same
abbrev pub IsomorphicCellsHaveOneBit : Type 0
IsomorphicCellsHaveOneBit = (a b : Netlist) → IsNetlist a → IsNetlist b → AreIsomorphic a b → (x : List Bool) (one other : ℕ → ℕ → List Bool → Bool)
    → ((c p : ℕ) (ins : List Bool) → one c p ins ≡ other c p ins)
    → (k m : ℕ) → k < length a.cells → m < length b.cells → formula_at a.cells k ≡ formula_at b.cells m → bit_of (value_of a x one) k ≡ bit_of (value_of b x other) m

-- and one value where boxes are unknown
abbrev pub IsomorphicCellsAreKnownTheSame : Type 0
IsomorphicCellsAreKnownTheSame = (a b : Netlist) → IsNetlist a → IsNetlist b → AreIsomorphic a b → (x : List Bool)
    → (k m : ℕ) → k < length a.cells → m < length b.cells → formula_at a.cells k ≡ formula_at b.cells m → tern_of (tern a x) k ≡ tern_of (tern b x) m

-- isomorphic netlists whose inputs and outputs are rearranged in one way are isomorphic
abbrev pub RearrangedStayIsomorphic : Type 0
RearrangedStayIsomorphic = (numbers picks : List ℕ) (old new u v : Netlist) → IsNetlist old → IsNetlist new → IsNetlist u → IsNetlist v
    → IsRearranged numbers picks old new → IsRearranged numbers picks u v → AreIsomorphic old u → AreIsomorphic new v
