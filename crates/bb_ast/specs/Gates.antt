-- The words of gates (IEEE 1364-2005, 7.2 and 7.3), and which of a gate's terminals are outputs: all but the last of buf and
-- not, and the first of the others.
use Rattle.std.specs.Prelude.{ℕ, ◌-◌, List, codes}
use Rattle.bb_ast.specs.declared.module.Gate.{Gate}
use Rattle.bb_ast.specs.declared.module.Gate.TheVariants as gates

abbrev pub gate_bytes : Gate → List ℕ
gate_bytes gates.And = codes "and"
gate_bytes gates.Nand = codes "nand"
gate_bytes gates.Or = codes "or"
gate_bytes gates.Nor = codes "nor"
gate_bytes gates.Xor = codes "xor"
gate_bytes gates.Xnor = codes "xnor"
gate_bytes gates.Buf = codes "buf"
gate_bytes gates.Not = codes "not"

-- how many of n terminals, from the first on, are outputs
abbrev pub output_count : Gate → ℕ → ℕ
output_count gates.Buf n = n - 1
output_count gates.Not n = n - 1
output_count gate n = 1
