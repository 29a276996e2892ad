use Rattle.std.proofs.Common.{◌≡◌, ◌∙◌, ap, arith, length, replicate}
use Rattle.std.specs.List.{flat_map, range_with_len}
use Rattle.bb_fill.specs.Lines.{line_text}
use Rattle.bb_fill.specs.Filled.{output_lines}
use Rattle.bb_fill.proofs.Choices.{flat_twice}
use Rattle.bb_fill.proofs.TextBuffers.{one_number_more, same}
use Rattle.bb_fill.proofs.sections.put_outputs.Goals as goal

pub loop-o-preserved : goal.loop-o-preserved
loop-o-preserved c = one_number_more (λ o. flat_map (line_text (replicate c.args.stem 95)) (output_lines c.args.flat.now o)) c.loop-o.o c.loop-o.invariant c.put_output.ensures.adds

pub returns : goal.returns
returns c =
    let f = c.args.flat.now in
    let last : c.loop-o.o ≡ length f.outs = omega (arith, c.loop-o-test.false, c.output_count-o-end.ensures.count) in
    record {
      adds = same
          (ap (λ n. flat_map (λ o. flat_map (line_text (replicate c.args.stem 95)) (output_lines f o)) (range_with_len 0 n)) last
          ∙ flat_twice (line_text (replicate c.args.stem 95)) (output_lines f) (range_with_len 0 (length f.outs)))
          c.loop-o.invariant;
    }
