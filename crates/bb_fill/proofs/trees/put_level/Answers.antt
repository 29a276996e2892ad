use Rattle.std.proofs.Common.{replicate, ap, arith, ◌∙◌, ◌≡◌}
use Rattle.std.specs.List.{flat_map, range_with_len}
use Rattle.bb_fill.specs.Words.{word_at}
use Rattle.bb_fill.specs.Lines.{line_text}
use Rattle.bb_fill.specs.Inside.Levels.{level_choice, value_word}
use Rattle.bb_fill.proofs.Levels.{level_text}
use Rattle.bb_fill.proofs.TextBuffers.{one_number_more, same}
use Rattle.bb_fill.proofs.trees.put_level.Goals as goal

pub loop-i-preserved : goal.loop-i-preserved
loop-i-preserved c =
    one_number_more (λ i. line_text (replicate c.args.stem 95) (level_choice c.args.table.now c.args.p c.args.values (word_at c.args.flat.now c.args.pin) c.args.first i)) c.loop-i.i
    c.loop-i.invariant c.put_level_choice.ensures.adds

pub returns : goal.returns
returns c =
    let last : c.loop-i.i ≡ c.args.count = omega (arith, c.loop-i-test.false) in
    record {
      adds = same (ap (λ n. flat_map (λ i. line_text (replicate c.args.stem 95) (level_choice c.args.table.now c.args.p c.args.values (word_at c.args.flat.now c.args.pin) c.args.first i)) (range_with_len 0 n)) last
          ∙ level_text (value_word c.args.table.now c.args.p c.args.values) (word_at c.args.flat.now c.args.pin) c.args.first c.args.count (replicate c.args.stem 95)) c.loop-i.invariant;
    }
