-- Cells that are added after others, and the formulas of places.
use Rattle.std.specs.Prelude.{◌≡◌, ℕ, ◌<◌, ◌≤◌, ◌+◌, true, false, List, [], ◌∷◌, ◌++◌, All, length, map}
use Rattle.bb_net.specs.declared.cell.Cell.{Cell}
use Rattle.bb_net.specs.declared.cell.Cell.TheVariants as cells
use Rattle.bb_net.specs.Netlists.{Netlist, cell_at}
use Rattle.bb_word.specs.declared.joint.Joint.{Joint}
use Rattle.bb_word.specs.declared.joint.Joint.TheVariants as joints
use Rattle.bb_word.specs.Gates.{Gates, Made}
use Rattle.bb_word.specs.Laws.Formulas.{Formula, cell_formula}

-- part gives for each place what its cell is made of
abbrev pub Meets : List Cell → (ℕ → Formula) → Type 0
Meets all part = (place : ℕ) → place < length all → part place ≡ cell_formula part (cell_at all place)

abbrev pub with_cells : Netlist → List Cell → Netlist
with_cells net more = record net { cells = net.cells ++ more }

abbrev pub with_outs : Netlist → List ℕ → Netlist
with_outs net places = record net { outs = net.outs ++ places }

-- the constants 0 and 1 come first
pub record HasConstants (all : List Cell) : Type 0 where
  pub zero : cell_at all 0 ≡ cells.Const false
  pub one : cell_at all 1 ≡ cells.Const true
  pub there : 2 ≤ length all

-- no bit and no cell
abbrev pub nothing : (ℕ → Formula) → Made Formula
nothing part = record { bits = []; cells = [] }

-- bits and cells, and then what is made further
abbrev pub ahead : List Formula → List Formula → Made Formula → Made Formula
ahead bits cells made = record { bits = bits ++ made.bits; cells = cells ++ made.cells }

-- the new cells, and the bits at these places, are what a circuit makes but for the rest
pub record Adds (old new : Netlist) (places : List ℕ) (circuit rest : (ℕ → Formula) → Made Formula) : Type 0 where
  pub more : List Cell
  pub grown : new ≡ with_cells old more
  pub there : All (λ place. place < length new.cells) places
  pub made : (part : ℕ → Formula) → Meets new.cells part → ahead (map part places) (map (cell_formula part) more) (rest part) ≡ circuit part

-- the gate of two operands
abbrev pub joint_gate : {A : Type 0} → Gates A → Joint → A → A → A
joint_gate g joints.Both = g.both
joint_gate g joints.Either = g.either
joint_gate g joints.Differ = g.differ

-- what it gives of no bits
abbrev pub joint_none : {A : Type 0} → Gates A → Joint → A
joint_none g joints.Both = g.one
joint_none g joints.Either = g.zero
joint_none g joints.Differ = g.zero

abbrev pub joint_cell : Joint → ℕ → ℕ → Cell
joint_cell joints.Both a b = cells.And a b
joint_cell joints.Either a b = cells.Or a b
joint_cell joints.Differ a b = cells.Xor a b

-- the cells of one bit of a sum, where the first is at place n
abbrev pub digit_cells : ℕ → ℕ → ℕ → ℕ → List Cell
digit_cells n a b c = cells.Xor a b ∷ cells.Xor n c ∷ cells.And a b ∷ cells.And n c ∷ cells.Or (n + 2) (n + 3) ∷ []

-- the cells of one bit of a test whether two words are equal
abbrev pub equality_cells : ℕ → ℕ → ℕ → List Cell
equality_cells n a b = cells.Xor a b ∷ cells.Not n ∷ []

-- the cells of one bit of a comparison
abbrev pub less_cells : ℕ → ℕ → ℕ → ℕ → List Cell
less_cells n a b so_far = cells.Xor a b ∷ cells.Mux n b so_far ∷ []
