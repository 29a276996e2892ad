use Rattle.std.proofs.Common.{arith}
use Rattle.bb_net.proofs.TableLemmas.{many_bits, many_outs}
use Rattle.bb_net.proofs.tables.box_bits.Goals as goal
use Rattle.bb_net.proofs.tables.box_bits.Goals.{then-len-gt24-via-then-len-gt24, then-len-gt24-via-else-len-gt24+then-outs-gt-MOST_BITS}

pub returns-then-len-gt24-clause-none : goal.returns-then-len-gt24-clause-none
returns-then-len-gt24-clause-none c = elim c.then-len-gt24.branch [
  | then-len-gt24-via-then-len-gt24 w ↦ many_bits _ _ (grind (arith, c.if-outs-eq0.false, c.len-outs.ensures)) (grind (arith, w.if-len-gt24, c.len.ensures))
  | then-len-gt24-via-else-len-gt24+then-outs-gt-MOST_BITS w ↦ many_outs _ _ (grind (arith, c.len-outs.ensures, w.if-outs-gt-MOST_BITS))
]
