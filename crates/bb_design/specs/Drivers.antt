-- What drives the bits of a design. Each of these drives a bit: that it is a bit of an input port of the top; that it
-- is a bit of a supply net; that it is an output pin of a box; each place of it on the left of an assignment or of <=;
-- each output terminal of a gate that is the bit; each place of it in the connection of an output port; and what is
-- connected to it, where it is a bit of an input port of an instance (IEEE 1364-2005, 4.6.1, 6.1, 7.1 and 12.3.9). The
-- standard resolves several drivers of a net; here a bit may have one. All drivers are one list, and a bit is in it as
-- often as it is driven. A driver carries what drives the bit, so that buffers, reading and dependence come from this
-- list too.
use Rattle.std.specs.Prelude.{ℕ, List, ◌++◌, map}
use Rattle.std.specs.List.{flat_map, zip, enumerate_from}
use Rattle.bb_ast.specs.Syntax.{Expression}
use Rattle.bb_expr.specs.Terms.{Term}
use Rattle.bb_expr.specs.Terms as term
use Rattle.bb_design.specs.Hierarchy.{Path, Design, Scope, path_to}
use Rattle.bb_design.specs.NetBits.{Bit, bits_named, pin_bits, output_bits, top_inputs, written_bits}
use Rattle.bb_design.specs.Contexts.{width_of, made_in, assigned_terms}
use Rattle.bb_design.specs.Constructs.{Construct, Assignment, GateInstance, Register, SupplyNet, InputConnection, OutputConnection, BoxContents, parts}
use Rattle.bb_design.specs.GateFunctions.{on_terms, gate_gives}

-- what drives a bit
pub data DrivingSource : Type 0 where
  -- nothing in the design: it is an input of the top, or a register
  Free : DrivingSource
  -- what is made of the nets of the scope at a path
  MadeOf : Path → Term → DrivingSource
  -- the box at a scope, which drives the bit at its output pin with this number
  Box : Scope → ℕ → DrivingSource

pub record Drive : Type 0 where
  pub bit : Bit
  pub source : DrivingSource

abbrev pub driven : DrivingSource → Bit → Drive
driven source b = record { bit = b; source = source }

-- bits and what they are made of in the scope at a path, place by place
abbrev pub driven_by : Path → List Bit → List Term → List Drive
driven_by path bits terms = map (λ x. driven (MadeOf path x.1) x.0) (zip bits terms)

-- the bits of the terminals of a gate, in order
abbrev pub terminal_terms : Scope → List Expression → List Term
terminal_terms s ins = flat_map (λ e. (made_in s e (width_of s e)).bits) ins

-- what a construct drives
abbrev pub drives_at : Scope × Construct → List Drive
drives_at (s, Assignment left right) = driven_by s.path (written_bits s left) (assigned_terms s left right)
drives_at (s, GateInstance gate outs ins) = map (driven (MadeOf s.path (gate_gives on_terms gate (terminal_terms s ins)))) (flat_map (written_bits s) outs)
drives_at (s, Register r) = map (driven Free) (written_bits s r.left)
drives_at (s, SupplyNet high n) = map (driven (MadeOf s.path (term.Const high))) (bits_named s n)
drives_at (s, InputConnection i pin e) = driven_by s.path (pin_bits (path_to s.path i) pin) (made_in s e (width_of s e)).bits
drives_at (s, OutputConnection i pin e) = driven_by (path_to s.path i) (written_bits s e) (map (λ b. term.Net b.net b.place) (pin_bits (path_to s.path i) pin))
drives_at (s, BoxContents) = map (λ x. driven (Box s x.0) x.1) (enumerate_from 0 (output_bits s))

-- all drivers of a design
abbrev pub drives : Design → List Drive
drives d = map (driven Free) (top_inputs d) ++ flat_map drives_at (parts d)

-- the driven bits, each as often as it is driven
abbrev pub driven_bits : Design → List Bit
driven_bits d = map (λ x. x.bit) (drives d)
