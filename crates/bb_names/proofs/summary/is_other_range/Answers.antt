use Rattle.std.proofs.Common.{arith}
use Rattle.bb_names.proofs.summary.is_other_range.Goals.{then-not-port-via-then-not-port, then-not-port-via-else-not-port+then-is_supply}
use Rattle.bb_names.proofs.summary.is_other_range.Goals as goal

pub returns-then-not-port : goal.returns-then-not-port
returns-then-not-port c = λ n. elim c.then-not-port.branch [
  | then-not-port-via-then-not-port w ↦ grind (arith, w.if-not-port)
  | then-not-port-via-else-not-port+then-is_supply w ↦ grind (arith, w.if-not-port, w.is_supply.ensures n, w.if-is_supply.true)
]

pub returns : goal.returns
returns c = λ n. grind (arith, c.if-not-port.false, c.is_supply.ensures n, c.if-is_supply.false, c.has_other.ensures)
