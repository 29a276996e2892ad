use Rattle.bb_fill.proofs.TextBuffers.{both}
use Rattle.bb_fill.proofs.trees.put_level_choice.Goals as goal

pub returns : goal.returns
returns c = record {
  adds =
      both (both (both (both (both (both (both (both c.put.ensures.adds c.put_choice.ensures.adds) c.put-2.ensures.adds) c.put_word.ensures.adds)
      c.put-3.ensures.adds) c.put_value.ensures.adds) c.put-4.ensures.adds) c.put_value-2.ensures.adds) c.put-5.ensures.adds;
}
