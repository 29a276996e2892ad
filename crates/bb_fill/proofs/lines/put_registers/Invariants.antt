use Rattle.std.proofs.Common.{◌++◌, codes, take}
use Rattle.std.specs.List.{flat_map}
use Rattle.bb_fill.specs.Words.{printed}
use Rattle.bb_fill.specs.Inside.TextBuffers.{Adds}
use Rattle.bb_fill.proofs.lines.put_registers.Given as goal

abbrev pub invariant-loop-reg : goal.invariant-loop-reg
invariant-loop-reg l = Adds l.initial.out l.out (flat_map (λ r. codes "reg " ++ printed r.text ++ codes ";\n") (take l.reg-index l.regs))
