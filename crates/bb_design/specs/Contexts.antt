-- Widths at which the expressions of a scope are taken (IEEE 1364-2005, 5.4.1): the right side of an assignment at the
-- greater of the widths of both sides, of which the left side takes the low bits (5.6); terminals of gates and
-- connections at their own width.
use Rattle.std.specs.Prelude.{ℕ, max, Bool, List, length}
use Rattle.bb_bits.specs.Bits.{low_bits}
use Rattle.bb_ast.specs.Syntax.{Expression}
use Rattle.bb_names.specs.Declarations.{range_of}
use Rattle.bb_names.specs.Widths.{own_width}
use Rattle.bb_expr.specs.Cells.{MadeTerms, made}
use Rattle.bb_expr.specs.Terms.{Term}
use Rattle.bb_expr.specs.Values.{Bits, value}
use Rattle.bb_design.specs.Hierarchy.{Scope}
use Rattle.bb_design.specs.NetBits.{written_bits}

abbrev pub width_of : Scope → Expression → ℕ
width_of s e = own_width (range_of s.source) e

-- the width of the context of an assignment
abbrev pub context_width : Scope → Expression → Expression → ℕ
context_width s left right = max (width_of s left) (width_of s right)

-- the value of an expression at a width, where the nets of its scope have these bits
abbrev pub value_in : Bits → Scope → Expression → ℕ → List Bool
value_in env s e w = value (range_of s.source) env e w

-- its bits and its cells
abbrev pub made_in : Scope → Expression → ℕ → MadeTerms
made_in s e w = made (range_of s.source) e w

-- what an assignment gives to its left side, the low bits of its right side, as many as the left side has: their
-- values, and what they are made of
abbrev pub assigned_values : Bits → Scope → Expression → Expression → List Bool
assigned_values env s left right = low_bits (length (written_bits s left)) (value_in env s right (context_width s left right))

abbrev pub assigned_terms : Scope → Expression → Expression → List Term
assigned_terms s left right = low_bits (length (written_bits s left)) (made_in s right (context_width s left right)).bits
