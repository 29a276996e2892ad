use Rattle.std.proofs.Common.{◌∙◌, arith, ap, cond}
use Rattle.std.specs.Prelude.{Some}
use Rattle.std.specs.Map.{lookup}
use Rattle.bb_bits.specs.Names.{same_name}
use Rattle.bb_fill.proofs.Indexes.{register_more}
use Rattle.bb_fill.proofs.index.put_registers.Goals as goal

pub loop-r-preserved : goal.loop-r-preserved
loop-r-preserved c =
    register_more c.args.flat.now c.loop-r.texts.entries c.insert.new.self.entries c.loop-r.r c.register_count-r-end.ensures.kept.apart (omega (arith, c.loop-r-test.true, c.register_count-r-end.ensures.count))
    (λ q. c.in_ok-insert.ensures.updates.0 q ∙ ap (λ k. cond (same_name k q) (Some c.loop-r.r) (lookup (same_name q) c.loop-r.texts.entries)) (c.in_ok-text.ensures.cases ∙ c.register_text.ensures.text))
    c.loop-r.invariant
