use Rattle.std.proofs.Common.{◌≡◌, ◌<◌, ◌^◌, map, max, take}
use Rattle.bb_fill.specs.Words.{maximum, leading}
use Rattle.bb_fill.proofs.stems.most_of_registers.Given as goal

abbrev pub invariant-loop-reg : goal.invariant-loop-reg
invariant-loop-reg l = (l.most ≡ max l.fn.most (maximum (map (λ r. leading r.text) (take l.reg-index l.regs)))) × (l.most < 2 ^ 63)
