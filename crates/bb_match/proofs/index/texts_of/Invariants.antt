use Rattle.std.proofs.Common.{◌≡◌, map, take}
use Rattle.bb_match.proofs.index.texts_of.Given as goal

abbrev pub invariant-loop-r : goal.invariant-loop-r
invariant-loop-r l = l.texts.items ≡ map (λ r. r.text) (take l.r-index l.regs)
