-- When two designs can be compared: the specification is complete, both have the same inputs, outputs and registers by
-- their texts, as sets, but for a care output that the specification has besides, and what fits the boxes settles both.
-- Registers of one text store at the same edge and go by inputs of one text: in every world a clock has the bit of its
-- input, whatever is between (IEEE 1364-2005, 9.7.2, for one edge). Designs that fit can be compared. That they fit
-- says more: that a clock is its input directly or through buffers, and that inputs, registers and pins of boxes are
-- few.
-- This can be read without knowing what a driver, a loop or a cell is. A bit without a driver, a loop,
-- or boxes that nothing fits cannot make a pair vacuously wrong: each vector must have a world in both designs, with one
-- bit at each output, and some contents must fit. So a verdict of error is on comparable designs.
use Rattle.std.specs.Prelude.{◌≡◌, ℕ, Bool, List, [], ◌∷◌, map, Contains, IfSome, Option}
use Rattle.bb_bits.specs.Contents.{Contents}
use Rattle.bb_design.specs.Hierarchy.{Design, boxes}
use Rattle.bb_design.specs.NetBits.{Bit, top_inputs, written_bits}
use Rattle.bb_design.specs.Refusals.{input_texts, output_texts, register_texts}
use Rattle.bb_design.specs.Registers.{RegisterBit, registers}
use Rattle.bb_design.specs.Texts.{bit_text}
use Rattle.bb_design.specs.Worlds.{World, Vector, IsWorld, HasVector, FitDesign, bit_in, bits_in, outputs_in}
use Rattle.bb_match.specs.Refusals.{AreAmong, compared}
use Rattle.bb_net.specs.CutPoints.{CutOutput}

-- the bits that a world has at all outputs and next states, in their order
abbrev pub output_values : Design → World → List Bool
output_values d w = map (λ (o : CutOutput × Bool). o.1) (outputs_in d w)

-- contents settle a design: each vector has a world, and all its worlds have the same bits at all outputs and next
-- states
pub record AreSettled (d : Design) (contents : Contents) : Type 0 where
  pub some : (x : Vector) → (w : World) × IsWorld d contents w × HasVector d x w
  pub one : (x : Vector) (w v : World) → IsWorld d contents w → HasVector d x w → IsWorld d contents v → HasVector d x v
      → output_values d w ≡ output_values d v

-- in every world, whatever fits the boxes, the clock of the register bit has the bit of this input of the top
abbrev pub IsClockedByInput : Design → RegisterBit → Bit → Type 0
IsClockedByInput d r input = (contents : Contents) (w : World) → FitDesign d contents → IsWorld d contents w
    → bits_in w (written_bits r.scope r.item.clock) ≡ bit_in w input ∷ []

-- two register bits store at the same edge, and by inputs of one text
abbrev pub AreClockedTheSame : Design → Design → RegisterBit → RegisterBit → Type 0
AreClockedTheSame spec imp r q = (q.item.falling ≡ r.item.falling)
    × ((b c : Bit) × Contains (top_inputs spec) b × Contains (top_inputs imp) c × (bit_text imp c ≡ bit_text spec b)
    × IsClockedByInput spec r b × IsClockedByInput imp q c)

-- the texts of the one are those of the other, in any order
abbrev pub AreSameTexts : List (List ℕ) → List (List ℕ) → Type 0
AreSameTexts texts others = AreAmong texts others × AreAmong others texts

pub record AreComparable (care : Option (List ℕ)) (spec imp : Design) : Type 0 where
  pub complete : boxes spec ≡ []
  pub has_care : IfSome care (Contains (output_texts spec))
  pub same_inputs : AreSameTexts (input_texts spec) (input_texts imp)
  pub same_outputs : AreSameTexts (compared care (output_texts spec)) (output_texts imp)
  pub same_registers : AreSameTexts (register_texts spec) (register_texts imp)
  pub clocks : (r q : RegisterBit) → Contains (registers spec) r → Contains (registers imp) q
      → bit_text imp q.bit ≡ bit_text spec r.bit → AreClockedTheSame spec imp r q
  pub settled : (contents : Contents) → FitDesign imp contents → AreSettled spec contents × AreSettled imp contents
