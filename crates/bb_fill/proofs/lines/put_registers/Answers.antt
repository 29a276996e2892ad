use Rattle.std.proofs.Common.{◌++◌, codes}
use Rattle.std.proofs.lemmas.List.{take_all}
use Rattle.bb_fill.specs.Words.{printed}
use Rattle.bb_fill.proofs.TextBuffers.{all_of, one_more}
use Rattle.bb_fill.proofs.lines.put_registers.Goals as goal

pub loop-reg-preserved : goal.loop-reg-preserved
loop-reg-preserved c = one_more (λ r. codes "reg " ++ printed r.text ++ codes ";\n") c.args.regs.now c.loop-reg.reg-index c.reg-item.result c.loop-reg-test.true c.reg-item.is c.loop-reg.invariant c.put_declaration.ensures.adds

pub returns : goal.returns
returns c = record { adds = all_of (λ r. codes "reg " ++ printed r.text ++ codes ";\n") c.args.regs.now c.loop-reg.reg-index (take_all c.loop-reg.reg-index c.args.regs.now c.loop-reg-test.false) c.loop-reg.invariant }
