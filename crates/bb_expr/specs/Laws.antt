-- Laws that a reader expects of values and cells.
pub mod FitLaws
pub mod Steady
use Rattle.std.specs.Prelude.{◌≡◌, ◌≤◌, ◌+◌, ℕ, true, false, ◌++◌, map, length, replicate}
use Rattle.bb_ast.specs.Syntax.{Expression}
use Rattle.bb_names.specs.Widths.{Ranges, own_width}
use Rattle.bb_expr.specs.Cells.{made, cell_count}
use Rattle.bb_expr.specs.Laws.Steady.{is_steady}
use Rattle.bb_expr.specs.Terms.{term_bit}
use Rattle.bb_expr.specs.Values.{Bits, value}

-- a value has as many bits as its context
abbrev pub ValuesHaveWidth : Type 0
ValuesHaveWidth = (ranges : Ranges) (env : Bits) (e : Expression) (w : ℕ) → own_width ranges e ≤ w → length (value ranges env e w) ≡ w

-- the bits that the cells make have the value
abbrev pub MadeHasValue : Type 0
MadeHasValue = (ranges : Ranges) (env : Bits) (e : Expression) (w : ℕ) → own_width ranges e ≤ w → map (term_bit env) (made ranges e w).bits ≡ value ranges env e w

-- there are as many cells as are counted
abbrev pub CellsAreCounted : Type 0
CellsAreCounted = (ranges : Ranges) (e : Expression) (w : ℕ) → own_width ranges e ≤ w → length (made ranges e w).cells ≡ cell_count ranges e w

-- without ~, ~^, a sum, a difference or a shift above, a wider context adds zeros on the left and nothing else
abbrev pub WiderAddsZeros : Type 0
WiderAddsZeros = (ranges : Ranges) (env : Bits) (e : Expression) (w k : ℕ) → own_width ranges e ≤ w → is_steady e ≡ true
    → value ranges env e (k + w) ≡ replicate k false ++ value ranges env e w
