-- The miter of two netlists without boxes (Brand, Verification of large synthesized designs, 1993): each of its outputs
-- is the exclusive or of the two outputs with its number. The disjunction of these is left out.
use Rattle.std.specs.Prelude.{◌≡◌, ℕ, ◌<◌, Bool, List, [], length}
use Rattle.bb_net.specs.Equivalence.{out_bit, wanted_bit}
use Rattle.bb_net.specs.Netlists.{Netlist}
use Rattle.bb_net.specs.Values.{flat, xor}

pub record IsMiter (spec imp net : Netlist) : Type 0 where
  pub inputs : net.inputs ≡ imp.inputs
  pub boxes : net.boxes ≡ []
  pub count : length net.outs ≡ length imp.outs
  pub outs : (x : List Bool) (j : ℕ) → j < length imp.outs
      → out_bit net (flat net x []) j ≡ xor (out_bit imp (flat imp x []) j) (wanted_bit spec x j)

-- a netlist without boxes that has the outputs of another at every vector
pub record HasOutputsOf (old new : Netlist) : Type 0 where
  pub inputs : new.inputs ≡ old.inputs
  pub boxes : new.boxes ≡ []
  pub count : length new.outs ≡ length old.outs
  pub outs : (x : List Bool) (j : ℕ) → j < length old.outs
      → out_bit new (flat new x []) j ≡ out_bit old (flat old x []) j
