-- How many of an expression's cells its parts and its arms make, and a number saturated at 2^64 - 1.
use Rattle.std.specs.Prelude.{ℕ, ◌+◌, ◌-◌, ◌*◌, ◌^◌, min}
use Rattle.bb_ast.specs.declared.expr.Op.{Op}
use Rattle.bb_ast.specs.Syntax.{Expression}
use Rattle.bb_names.specs.Widths.{Ranges, own_width}
use Rattle.bb_expr.specs.Cells.{op_cells, cell_count}

-- the number, or the greatest of 64 bits
abbrev pub capped : ℕ → ℕ
capped n = min (2 ^ 64 - 1) n

-- the cells of a part, which is taken at its own width
abbrev pub own_cells : Ranges → Expression → ℕ
own_cells ranges e = cell_count ranges e (own_width ranges e)

-- an operator of a chain with its right operand
abbrev pub operand_cells : Ranges → ℕ → Op × Expression → ℕ
operand_cells ranges w x = cell_count ranges x.1 w + op_cells x.0 * w

-- a condition with its value, and the choice between this and the rest
abbrev pub arm_cells : Ranges → ℕ → Expression × Expression → ℕ
arm_cells ranges w x = own_cells ranges x.0 + (own_width ranges x.0 - 1) + cell_count ranges x.1 w + w
