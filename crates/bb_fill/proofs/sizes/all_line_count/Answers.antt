use Rattle.std.proofs.Common.{◌<◌, arith, length}
use Rattle.bb_net.specs.Kinds.{per_box}
use Rattle.bb_net.specs.Netlists.{cell_at}
use Rattle.bb_fill.specs.Filled.{cell_lines}
use Rattle.bb_fill.proofs.Choices.{choices_more}
use Rattle.bb_fill.proofs.SizeLemmas.{length_more}
use Rattle.bb_fill.proofs.sizes.all_line_count.Goals as goal

pub loop-number-preserved : goal.loop-number-preserved
loop-number-preserved c =
    let f = c.args.flat.now in
    let within : c.loop-number.number < length f.net.cells = omega (arith, c.loop-number-test.true, c.cell_count-number-end.ensures.count) in
    let more = length_more (λ k. cell_lines f (per_box c.args.kinds.now c.args.tables.now) k (cell_at f.net.cells k)) c.loop-number.number in (
      omega (arith, c.loop-number.invariant.0, c.line_count-count.ensures.count, more),
      omega (arith, c.loop-number.invariant.1, c.line_count-count.ensures.choices, choices_more f c.loop-number.number within),
      omega (arith, c.loop-number.invariant.2, c.line_count-count.ensures.few),
    )
