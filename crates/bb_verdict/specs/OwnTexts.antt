-- Reports name boxes, registers, inputs and outputs of a design by texts. Each has one of its own where no two have the
-- same; for example, an input `\a[0] ` has the text of the bit 0 of an input a (IEEE 1364-2005, 3.7.1).
use Rattle.bb_design.specs.Hierarchy.{Design}
use Rattle.bb_design.specs.Refusals.{AreDistinctTexts, box_paths, input_texts, output_texts, register_texts}

pub record HasOwnTexts (d : Design) : Type 0 where
  pub boxes : AreDistinctTexts (box_paths d)
  pub registers : AreDistinctTexts (register_texts d)
  pub inputs : AreDistinctTexts (input_texts d)
  pub outputs : AreDistinctTexts (output_texts d)
