-- What the constructs of a design are joined to.
use Rattle.std.specs.Prelude.{◌≡◌, ℕ, ◌≤◌, List, length, All, Contains}
use Rattle.bb_ast.specs.declared.module.Gate.{Gate}
use Rattle.bb_ast.specs.Syntax.{Expression}
use Rattle.bb_names.specs.Sites.{Pin}
use Rattle.bb_design.specs.Hierarchy.{Design, Scope, path_to, boxes}
use Rattle.bb_design.specs.NetBits.{Bit, net_order, pin_bits}
use Rattle.bb_design.specs.Contexts.{width_of}
use Rattle.bb_design.specs.Constructs.{GateInstance, OutputConnection, BoxContents, parts}

-- the pins of its output connections are bits of it, each of its gates has an input or more, of one bit each, and its
-- boxes alone have contents
pub record IsWired (d : Design) : Type 0 where
  pub pins : (s : Scope) (i : List ℕ) (pin : Pin) (e : Expression) → Contains (parts d) (s, OutputConnection i pin e) → (b : Bit) → Contains (pin_bits (path_to s.path i) pin) b → Contains (net_order d) b
  pub gates : (s : Scope) (gate : Gate) (outs ins : List Expression) → Contains (parts d) (s, GateInstance gate outs ins) → (1 ≤ length ins) × All (λ e. width_of s e ≡ 1) ins
  pub boxed : (s : Scope) → Contains (parts d) (s, BoxContents) → Contains (boxes d) s
