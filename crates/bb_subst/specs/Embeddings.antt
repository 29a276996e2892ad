-- A netlist embedded in another: each of its cells has a place there, at which the same operator reads the places of
-- its operands. What implements an output pin of a box is left open, so that two netlists side by side, a netlist whose
-- boxes are filled, and one after which copies of another come are the same case.
use Rattle.std.specs.Prelude.{◌≡◌, ℕ, ◌<◌, List, length}
use Rattle.bb_net.specs.declared.cell.Cell.{Cell}
use Rattle.bb_net.specs.declared.cell.Cell.TheVariants.{Const, Input, Not, And, Or, Xor, Mux, BoxOut}
use Rattle.bb_net.specs.Netlists.{Netlist, cell_at}

-- a cell that reads other places
abbrev pub renumbered : (ℕ → ℕ) → Cell → Cell
renumbered at (Const b) = Const b
renumbered at (Input i) = Input i
renumbered at (Not a) = Not (at a)
renumbered at (And a b) = And (at a) (at b)
renumbered at (Or a b) = Or (at a) (at b)
renumbered at (Xor a b) = Xor (at a) (at b)
renumbered at (Mux c t e) = Mux (at c) (at t) (at e)
renumbered at (BoxOut b p) = BoxOut b p

-- a cell is at a place among others
abbrev pub OccursAt : List Cell → (ℕ → ℕ) → Cell → ℕ → Type 0
OccursAt cells at (BoxOut b p) place = Unit {0}
OccursAt cells at cell place = cell_at cells place ≡ renumbered at cell

-- each cell of the old netlist is in the new one, where at gives its place
pub record OccursIn (old new : Netlist) (at : ℕ → ℕ) : Type 0 where
  pub inputs : new.inputs ≡ old.inputs
  pub there : (k : ℕ) → k < length old.cells → at k < length new.cells
  pub cells : (k : ℕ) → k < length old.cells → OccursAt new.cells at (cell_at old.cells k) (at k)
