-- The formula of a cell: what the cell is made of, down to constants, inputs and output pins of boxes. The cells of a
-- netlist are steps of a Boolean chain, and this is the formula of a step when each operand is written out (Knuth, The
-- Art of Computer Programming, volume 4A, 7.1.2).
use Rattle.std.specs.Prelude.{ℕ, ◌+◌, ◌-◌, zero, suc, Bool, false, List, length, map}
use Rattle.std.specs.List.{range_with_len}
use Rattle.bb_net.specs.declared.cell.Cell.{Cell}
use Rattle.bb_net.specs.declared.cell.Cell.TheVariants as cell
use Rattle.bb_net.specs.Netlists.{Netlist, Pins, cell_at}

pub data Formula : Type 0 where
  Const : Bool → Formula
  Input : ℕ → Formula
  Not : Formula → Formula
  And : Formula → Formula → Formula
  Or : Formula → Formula → Formula
  Xor : Formula → Formula → Formula
  -- where the first holds the second, else the third
  Mux : Formula → Formula → Formula → Formula
  -- an output pin: the numbers of the box and of the pin
  BoxOut : ℕ → ℕ → Formula

-- the formula of a cell, where at gives those of the places that it reads
abbrev pub cell_formula : (ℕ → Formula) → Cell → Formula
cell_formula at (cell.Const b) = Const b
cell_formula at (cell.Input i) = Input i
cell_formula at (cell.Not a) = Not (at a)
cell_formula at (cell.And a b) = And (at a) (at b)
cell_formula at (cell.Or a b) = Or (at a) (at b)
cell_formula at (cell.Xor a b) = Xor (at a) (at b)
cell_formula at (cell.Mux c t e) = Mux (at c) (at t) (at e)
cell_formula at (cell.BoxOut b p) = BoxOut b p

-- that of a place, by at most this many steps from operand to operand
unfoldable pub formula_within : List Cell → ℕ → ℕ → Formula
formula_within cells zero place = Const false
formula_within cells (suc n) place = cell_formula (formula_within cells n) (cell_at cells place)

-- a cell reads only earlier ones, so one step more than its place is enough
abbrev pub formula_at : List Cell → ℕ → Formula
formula_at cells place = formula_within cells (suc place) place

-- those of the cells after the constants and the inputs
abbrev pub cell_formulas : Netlist → List Formula
cell_formulas net = map (formula_at net.cells) (range_with_len (net.inputs + 2) (length net.cells - (net.inputs + 2)))

-- those of the pins of a box
pub record PinFormulas : Type 0 where
  pub ins : List Formula
  pub outs : List Formula

abbrev pub pin_formulas : List Cell → Pins → PinFormulas
pin_formulas cells pins = record { ins = map (formula_at cells) pins.ins; outs = map (formula_at cells) pins.outs }
