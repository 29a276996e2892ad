-- Dependence goes from a driven bit to each bit of which it is made, through cells and buffers, and from an output pin
-- of a box to each input pin of the box. It is between bits of nets alone: what a bit is made of is a finite term, so
-- every loop passes a bit of a net. A register depends on nothing: its data are of the clock cycle before. The standard
-- simulates loops of gates; here a design with one is refused, so that its bits are a function of the vector.
use Rattle.std.specs.Prelude.{List, [], ◌∷◌, ◌++◌, map}
use Rattle.std.specs.List.{flat_map}
use Rattle.bb_expr.specs.Terms.{Term, Const, Net, Not, And, Or, Xor, Mux}
use Rattle.bb_design.specs.Hierarchy.{Path, Design}
use Rattle.bb_design.specs.NetBits.{Bit, input_bits}
use Rattle.bb_bits.specs.Closures.{Leads}
use Rattle.bb_design.specs.Drivers.{DrivingSource, Free, MadeOf, Box, drives}

-- the bits of which a term is made
abbrev pub bits_below : Path → Term → List Bit
bits_below path (Const b) = []
bits_below path (Net n i) = record { path = path; net = n; place = i } ∷ []
bits_below path (Not a) = bits_below path a
bits_below path (And a b) = bits_below path a ++ bits_below path b
bits_below path (Or a b) = bits_below path a ++ bits_below path b
bits_below path (Xor a b) = bits_below path a ++ bits_below path b
bits_below path (Mux c t e) = bits_below path c ++ bits_below path t ++ bits_below path e

abbrev pub needed : DrivingSource → List Bit
needed Free = []
needed (MadeOf path t) = bits_below path t
needed (Box s pin) = input_bits s

-- each driven bit with each bit on which it depends
abbrev pub dependences : Design → List (Bit × Bit)
dependences d = flat_map (λ x. map (λ c. (x.bit, c)) (needed x.source)) (drives d)

-- the bit is on a loop of dependence
abbrev pub IsOnLoop : Design → Bit → Type 0
IsOnLoop d b = Leads (dependences d) b b
