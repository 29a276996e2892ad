-- When a box of a design depends on another. Boxes are taken in an order in which each comes after those on which it
-- depends.
use Rattle.std.specs.Prelude.{◌≡◌, ◌⊎◌, Contains}
use Rattle.bb_bits.specs.Closures.{Leads}
use Rattle.bb_design.specs.Dependence.{dependences}
use Rattle.bb_design.specs.Hierarchy.{Design, Scope}
use Rattle.bb_design.specs.NetBits.{Bit, input_bits, output_bits}

-- a box depends on another: a bit of one of its inputs is a bit of an output of that, or depends on one
pub record DependsOnBox (d : Design) (s t : Scope) : Type 0 where
  pub input : Bit
  pub output : Bit
  pub of_one : Contains (input_bits s) input
  pub of_other : Contains (output_bits t) output
  pub depends : (input ≡ output) ⊎ Leads (dependences d) input output
