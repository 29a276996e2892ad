use Rattle.std.proofs.Common.{replicate, map, reverse, ap, ◌∙◌, refl}
use Rattle.bb_fill.specs.Words.{Bit, word_at}
use Rattle.bb_bits.specs.Tables.{column}
use Rattle.bb_fill.specs.declared.trees.Values.TheVariants.{Rows}
use Rattle.bb_fill.specs.Inside.Levels.{level_words}
use Rattle.bb_fill.proofs.Levels.{rooted, row_bits}
use Rattle.bb_fill.proofs.TextBuffers.{same, both}
use Rattle.bb_fill.proofs.trees.put_pin.Goals as goal

pub returns : goal.returns
returns c =
    let t = c.args.table.now in
    record {
      adds =
          same (rooted (replicate c.args.stem 95) (reverse (map (word_at c.args.flat.now) c.args.pins.now)) c.args.first c.args.number (map Bit (column t c.args.p)) (level_words t c.args.p Rows c.row_count-rows.result) (level_words t c.args.p c.put_levels-values.result 1) (ap (level_words t c.args.p Rows) c.row_count-rows.ensures.rows ∙ row_bits t c.args.p t.inputs refl) c.put_levels-values.ensures.left)
          (both c.put_levels-values.ensures.adds c.put_root.ensures.adds);
    }
