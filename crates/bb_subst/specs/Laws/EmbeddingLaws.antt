-- Laws of embeddings, and of trees.
use Rattle.std.specs.Prelude.{◌≡◌, ℕ, ◌<◌, Bool, false, List, length, map}
use Rattle.std.specs.List.{slice_index_or}
use Rattle.bb_bits.specs.Numbers.{number_of}
use Rattle.bb_net.specs.declared.cell.Cell.TheVariants.{BoxOut}
use Rattle.bb_net.specs.Netlists.{Netlist, IsNetlist, box_at, cell_at}
use Rattle.bb_net.specs.Values.{bit_of, value_of}
use Rattle.bb_subst.specs.Embeddings.{OccursIn}
use Rattle.bb_subst.specs.Trees.{IsTree}

-- where what implements the output pins of boxes gives what the boxes give, each cell has at its place the bit that it
-- had
abbrev pub OccurrencesKeepBits : Type 0
OccurrencesKeepBits = (old new : Netlist) (at : ℕ → ℕ) → IsNetlist old → IsNetlist new → OccursIn old new at
    → (x : List Bool) (one other : ℕ → ℕ → List Bool → Bool)
    → ((k b p : ℕ) → k < length old.cells → cell_at old.cells k ≡ BoxOut b p
    → bit_of (value_of new x other) (at k) ≡ one b p (map (λ pin. bit_of (value_of new x other) (at pin)) (box_at old.boxes b).ins))
    → (k : ℕ) → k < length old.cells → bit_of (value_of new x other) (at k) ≡ bit_of (value_of old x one) k

-- a tree gives the bit of its column whose number the bits at the pins spell
abbrev pub TreesChoose : Type 0
TreesChoose = (net : Netlist) → IsNetlist net → (x : List Bool) (box : ℕ → ℕ → List Bool → Bool) (pins : List ℕ) (column : List Bool) (place : ℕ) → IsTree net.cells pins column place
    → bit_of (value_of net x box) place ≡ slice_index_or column (number_of (map (bit_of (value_of net x box)) pins)) false
