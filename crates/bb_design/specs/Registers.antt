-- Registers (IEEE 1364-2005, 9.2.2, 9.7.2 and 9.9.2, in a profile): a register bit is a bit on the left of <=. At the
-- edge that it names, it takes the bit of the right side at its place among the low bits. Registers are in net order.
use Rattle.std.specs.Prelude.{ℕ, List, [], ◌++◌, map}
use Rattle.std.specs.List.{find, filter_map, flat_map, enumerate_from}
use Rattle.bb_ast.specs.Syntax.{PlainAlways}
use Rattle.bb_expr.specs.Terms.{Term}
use Rattle.bb_design.specs.Hierarchy.{Design, Scope}
use Rattle.bb_design.specs.NetBits.{Bit, same_bit, net_order, top_inputs, written_bits}
use Rattle.bb_design.specs.Constructs.{Construct, Register, parts}
use Rattle.bb_design.specs.Contexts.{assigned_terms}

-- a register bit: its scope, its always item, and its place on the left side, from the most significant on
pub record RegisterBit : Type 0 where
  pub scope : Scope
  pub item : PlainAlways
  pub place : ℕ
  pub bit : Bit

abbrev pub stored_at : Scope × Construct → List RegisterBit
stored_at (s, Register r) = map (λ x. record { scope = s; item = r; place = x.0; bit = x.1 }) (enumerate_from 0 (written_bits s r.left))
stored_at (s, c) = []

-- all register bits in text order, scope by scope
abbrev pub stored : Design → List RegisterBit
stored d = flat_map stored_at (parts d)

-- the register bits in net order; where a bit is stored at two places, the first counts, and the bit counts once among
-- inputs and sizes (such a design is refused for its two drivers)
abbrev pub registers : Design → List RegisterBit
registers d = filter_map (λ b. find (λ r. same_bit b r.bit) (stored d)) (net_order d)

-- the inputs of the flat netlist: the bits of the top's input ports, and then the register bits
abbrev pub cut_bits : Design → List Bit
cut_bits d = top_inputs d ++ map (λ r. r.bit) (registers d)

-- what the data bits of an always item are made of
abbrev pub data_terms : Scope → PlainAlways → List Term
data_terms s r = assigned_terms s r.left r.right
