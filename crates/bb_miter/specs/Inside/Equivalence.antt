-- Two netlists without boxes, a specification and an implementation, beside each other: when they are equivalent, as
-- combinational equivalence is checked on the miter of two circuits (Brand, Verification of large synthesized designs,
-- 1993).
use Rattle.std.specs.Prelude.{◌≡◌, ◌≤◌, Bool, List, [], length}
use Rattle.bb_net.specs.Equivalence.{AllRight, IsVector, SomeWrong}
use Rattle.bb_net.specs.Netlists.{Netlist}
use Rattle.bb_net.specs.Values.{flat}

-- they have the same inputs, at most 2,048, as many outputs, and no boxes
pub record AreComparable (spec imp : Netlist) : Type 0 where
  pub inputs : spec.inputs ≡ imp.inputs
  pub few : imp.inputs ≤ 2048
  pub outputs : length spec.outs ≡ length imp.outs
  pub spec_boxes : spec.boxes ≡ []
  pub imp_boxes : imp.boxes ≡ []

-- at the vector some output differs
abbrev pub DiffersAt : Netlist → Netlist → List Bool → Type 0
DiffersAt spec imp x = IsVector imp x × SomeWrong spec imp x (flat imp x [])

-- at the vector all outputs are the same
abbrev pub SameAt : Netlist → Netlist → List Bool → Type 0
SameAt spec imp x = AllRight spec imp x (flat imp x [])

-- at every vector they are
abbrev pub AreEquivalent : Netlist → Netlist → Type 0
AreEquivalent spec imp = (x : List Bool) → IsVector imp x → SameAt spec imp x
