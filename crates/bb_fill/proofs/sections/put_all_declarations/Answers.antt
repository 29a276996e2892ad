use Rattle.std.proofs.Common.{◌++◌, ap, codes}
use Rattle.std.specs.List.{flat_map}
use Rattle.bb_net.specs.declared.flat.Reg.{Reg}
use Rattle.bb_fill.specs.Words.{printed}
use Rattle.bb_fill.proofs.TextBuffers.{both, same}
use Rattle.bb_fill.proofs.TextLists.{declared_text}
use Rattle.bb_fill.proofs.sections.put_all_declarations.Goals as goal

pub returns : goal.returns
returns c =
    let f = c.args.flat.now in
    let first = same (ap (flat_map (λ name. codes "input " ++ printed name ++ codes ";\n")) c.ins.ensures.ins) c.put_declarations.ensures.adds in
    let second = same (ap (flat_map (λ name. codes "output " ++ printed name ++ codes ";\n")) c.outs.ensures.outs) c.put_declarations-2.ensures.adds in
    let third = same (ap (flat_map (λ (r : Reg). codes "reg " ++ printed r.text ++ codes ";\n")) c.regs.ensures.regs) c.put_registers.ensures.adds in
    record { adds = λ stem. same (declared_text stem f.ins f.outs f.regs) (both (both first second) third) }
