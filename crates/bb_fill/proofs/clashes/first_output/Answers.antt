use Rattle.std.proofs.Common.{◌<◌, arith, length}
use Rattle.bb_fill.specs.Clashes.{IsItsRegister, IsOutputClash}
use Rattle.bb_fill.proofs.ClashLemmas.{output_or_not}
use Rattle.bb_fill.proofs.Loops.{all_numbers, all_numbers_more, first_number}
use Rattle.bb_fill.proofs.clashes.first_output.Goals as goal

pub returns-then-is_output_clash-clause-some : goal.returns-then-is_output_clash-clause-some
returns-then-is_output_clash-clause-some c =
    let f = c.args.flat.now in
    let within : c.loop-o.o < length f.outs = omega (arith, c.loop-o-test.true, c.output_count-o-end.ensures.count) in
    (within, first_number (IsOutputClash f) (IsItsRegister f) (output_or_not f) (length f.outs) c.loop-o.o within c.loop-o.invariant c.if-is_output_clash.ensures.clash)

pub loop-o-preserved : goal.loop-o-preserved
loop-o-preserved c =
    let f = c.args.flat.now in
    let within : c.loop-o.o < length f.outs = omega (arith, c.loop-o-test.true, c.output_count-o-end.ensures.count) in
    all_numbers_more (IsItsRegister f) (length f.outs) c.loop-o.o within c.loop-o.invariant c.if-is_output_clash.ensures.clash

pub returns-clause-none : goal.returns-clause-none
returns-clause-none c =
    let f = c.args.flat.now in
    all_numbers (IsItsRegister f) (length f.outs) c.loop-o.o (omega (arith, c.loop-o-test.false, c.output_count-o-end.ensures.count)) c.loop-o.invariant
