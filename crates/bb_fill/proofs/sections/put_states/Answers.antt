use Rattle.std.proofs.Common.{◌∙◌, ap, replicate}
use Rattle.std.specs.List.{flat_map}
use Rattle.std.proofs.lemmas.List.{take_all}
use Rattle.bb_fill.specs.Lines.{line_text}
use Rattle.bb_fill.specs.Filled.{register_lines}
use Rattle.bb_fill.proofs.TextBuffers.{same}
use Rattle.bb_fill.proofs.TextLists.{register_more}
use Rattle.bb_fill.proofs.sections.put_states.Goals as goal

pub loop-r-preserved : goal.loop-r-preserved
loop-r-preserved c =
    register_more c.args.flat.now (replicate c.args.stem 95) c.regs-reg-items.result.now c.loop-r.r c.reg-item.result c.loop-r-test.true c.reg-item.is c.loop-r.invariant c.put_state.ensures.adds

pub returns : goal.returns
returns c = record {
  adds = same (ap (λ l. flat_map (line_text (replicate c.args.stem 95)) (register_lines c.args.flat.now 0 l)) (take_all c.loop-r.r c.regs-reg-items.result.now c.loop-r-test.false ∙ c.regs-reg-items.ensures.regs)) c.loop-r.invariant;
}
