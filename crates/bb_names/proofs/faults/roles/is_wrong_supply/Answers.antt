use Rattle.std.proofs.Common.{arith}
use Rattle.bb_names.proofs.faults.roles.is_wrong_supply.Goals as goal

pub returns-then-is_supply : goal.returns-then-is_supply
returns-then-is_supply c = λ n. grind (arith, c.is_supply.ensures n, c.if-is_supply.true)

pub returns-else-is_supply : goal.returns-else-is_supply
returns-else-is_supply c = λ n. grind (arith, c.is_supply.ensures n, c.if-is_supply.false)
