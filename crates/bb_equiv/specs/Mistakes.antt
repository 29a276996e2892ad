-- Vectors that show a mistake in two designs: whatever the boxes of the implementation contain, at such a vector the
-- two give different bits, at the output that is reported or, where none is, at some output, which need not be the same
-- one for all contents. A vector gives a bit to each bit of an input port of the top and to each register bit, which
-- has it as its present state; an output is a bit of an output port of the top, or the next state of a register bit.
-- Where a care output is requested, it is 1 at such a vector, and it is none of the outputs at which the two differ.
use Rattle.std.specs.Prelude.{◌++◌, ℕ, Bool, not, List, map, Contains, Option, None, Some}
use Rattle.bb_bits.specs.Contents.{Contents}
use Rattle.bb_net.specs.CutPoints.{CutInput, TopInput, State, CutOutput}
use Rattle.bb_design.specs.Hierarchy.{Design}
use Rattle.bb_design.specs.Refusals.{input_texts, register_texts}
use Rattle.bb_design.specs.Worlds.{World, Vector, HasVector, IsWorld, FitDesign, outputs_in}
use Rattle.bb_equiv.specs.DesignEquivalence.{IsRequired, IsCompared, MayFill}

-- the inputs of a design, in net order: those of the top, and then the register bits
abbrev pub inputs_of : Design → List CutInput
inputs_of d = map TopInput (input_texts d) ++ map State (register_texts d)

-- the output is compared, and in these worlds the implementation does not have the specification's bit there
pub record DifferAt (care : Option (List ℕ)) (spec imp : Design) (w v : World) (o : CutOutput) : Type 0 where
  pub is_compared : IsCompared care o
  pub bit : Bool
  pub spec_has : Contains (outputs_in spec w) (o, bit)
  pub imp_has : Contains (outputs_in imp v) (o, not bit)

-- at the output that is reported; where none is, at some output
abbrev pub DifferAtReported : Option (List ℕ) → Design → Design → World → World → Option CutOutput → Type 0
DifferAtReported care spec imp w v (Some o) = DifferAt care spec imp w v o
DifferAtReported care spec imp w v None = (o : CutOutput) × DifferAt care spec imp w v o

-- the design has a world with the vector
abbrev pub HasWorld : Design → Contents → Vector → Type 0
HasWorld d contents x = (w : World) × IsWorld d contents w × HasVector d x w

-- with these contents the vector shows a mistake: both designs have worlds with it, and in all such worlds of the two
-- equivalence is required and they differ
pub record DifferWith (care : Option (List ℕ)) (spec imp : Design) (contents : Contents) (x : Vector)
    (reported : Option CutOutput) : Type 0 where
  pub worlds : HasWorld spec contents x × HasWorld imp contents x
  pub required : (w : World) → IsWorld spec contents w → HasVector spec x w → IsRequired care (outputs_in spec w)
  pub differ : (w v : World) → IsWorld spec contents w → HasVector spec x w → IsWorld imp contents v → HasVector imp x v
      → DifferAtReported care spec imp w v reported

-- the vector shows a mistake with all contents that fit the boxes of the implementation, and some do
pub record IsMistakeAt (care : Option (List ℕ)) (spec imp : Design) (x : Vector)
    (reported : Option CutOutput) : Type 0 where
  pub fit : (contents : Contents) × FitDesign imp contents
  pub each : (contents : Contents) → FitDesign imp contents → DifferWith care spec imp contents x reported

-- whatever contents may fill the boxes, with them one of these vectors shows a mistake; a vector has a bit for each
-- input of the specification, in their order
abbrev pub AreMistakesAmong : Option (List ℕ) → Bool → Design → Design → List (List Bool) → Type 0
AreMistakesAmong care shared spec imp vectors = (contents : Contents) → MayFill shared imp contents
    → (x : Vector) × Contains vectors (map x (inputs_of spec)) × DifferWith care spec imp contents x None
