-- A law of isomorphic netlists: with the same tables in their boxes they have the same bits. How many cells a tree has
-- is left open, and where two old cells are equal one new cell may implement both, so that filled netlists need not
-- have each formula as often and so need not be isomorphic. The beads of their BDDs are a set, so the same bits are
-- enough.
use Rattle.std.specs.Prelude.{◌≡◌, ℕ, ◌<◌, Bool, List, [], length, map}
use Rattle.bb_iso.specs.Laws.Isomorphism.{AreIsomorphic}
use Rattle.bb_bits.specs.Tables.{TableBits}
use Rattle.bb_net.specs.Netlists.{Netlist, IsNetlist}
use Rattle.bb_net.specs.Values.{bit_of, flat, FitBoxes}
use Rattle.bb_subst.specs.Filled.{IsFilled}

-- netlists without boxes have the same bits at their outputs, and each cell of the one has its bits at a cell of the
-- other
pub record HaveSameBits (a b : Netlist) : Type 0 where
  pub inputs : a.inputs ≡ b.inputs
  pub outs : (x : List Bool) → map (bit_of (flat a x [])) a.outs ≡ map (bit_of (flat b x [])) b.outs
  pub cells : (k : ℕ) → k < length a.cells → (m : ℕ) × (m < length b.cells) × ((x : List Bool) → bit_of (flat a x []) k ≡ bit_of (flat b x []) m)

abbrev pub IsomorphicFilledNetsHaveSameBits : Type 0
IsomorphicFilledNetsHaveSameBits = (a b new other : Netlist) (tables : List TableBits) (at to : ℕ → ℕ) → IsNetlist a → IsNetlist b → IsNetlist new → IsNetlist other → AreIsomorphic a b → FitBoxes tables a.boxes
    → IsFilled a tables new at → IsFilled b tables other to → HaveSameBits new other
