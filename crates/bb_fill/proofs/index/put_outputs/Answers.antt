use Rattle.std.proofs.Common.{◌∙◌, arith, ap, cond}
use Rattle.std.specs.Prelude.{Some}
use Rattle.std.specs.Map.{lookup}
use Rattle.bb_bits.specs.Names.{same_name}
use Rattle.bb_fill.proofs.Indexes.{all_outputs, no_outputs, output_more}
use Rattle.bb_fill.proofs.index.put_outputs.Goals as goal

pub loop-o-init : goal.loop-o-init
loop-o-init c = no_outputs c.args.flat.now c.args.texts.now.entries c.requires.empty

pub loop-o-preserved : goal.loop-o-preserved
loop-o-preserved c =
    output_more c.args.flat.now c.loop-o.texts.entries c.insert.new.self.entries c.loop-o.o c.register_count-after.result (omega (arith, c.loop-o-test.true, c.output_count-o-end.ensures.count)) c.register_count-after.ensures.count
    (λ q. c.in_ok-insert.ensures.updates.0 q ∙ ap (λ k. cond (same_name k q) (Some c.register_count-after.result) (lookup (same_name q) c.loop-o.texts.entries)) (c.in_ok-text.ensures.cases ∙ c.output_text.ensures.text))
    c.loop-o.invariant

pub returns : goal.returns
returns c = record { index = all_outputs c.args.flat.now c.loop-o.o c.loop-o.texts.entries (omega (arith, c.loop-o-test.false, c.output_count-o-end.ensures.count)) c.loop-o.invariant }
