use Rattle.std.proofs.Common.{arith}
use Rattle.bb_names.proofs.faults.roles.is_wrong_declaration.Goals.{then-is_wrong_register-via-then-is_wrong_register, then-is_wrong_register-via-else-is_wrong_register+then-is_wrong_supply}
use Rattle.bb_names.proofs.faults.roles.is_wrong_declaration.Goals as goal

pub returns-then-is_wrong_register : goal.returns-then-is_wrong_register
returns-then-is_wrong_register c = λ m n before text kind port input. elim c.then-is_wrong_register.branch [
  | then-is_wrong_register-via-then-is_wrong_register w ↦ grind (arith, kind, port, input, c.is_wrong_register.ensures n, w.if-is_wrong_register.true)
  | then-is_wrong_register-via-else-is_wrong_register+then-is_wrong_supply w ↦ grind (arith, kind, port, input, c.is_wrong_register.ensures n, w.if-is_wrong_register.false, w.is_wrong_supply.ensures n, w.if-is_wrong_supply.true)
]

pub returns : goal.returns
returns c = λ m n before text kind port input.
    grind (arith, kind, port, input, c.is_wrong_register.ensures n, c.if-is_wrong_register.false, c.is_wrong_supply.ensures n, c.if-is_wrong_supply.false, c.is_wrong_direction.ensures)
