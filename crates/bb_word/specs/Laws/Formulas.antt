-- Formulas over the inputs of a netlist, and what the cells of a netlist without boxes are made of.
use Rattle.std.specs.Prelude.{ℕ, zero, suc, Bool, true, false, not, ◌&&◌, ◌||◌, if◌then◌else◌, List, slice_index_or}
use Rattle.bb_bits.specs.Bits.{xor}
use Rattle.bb_net.specs.declared.cell.Cell.{Cell}
use Rattle.bb_net.specs.declared.cell.Cell.TheVariants as cells
use Rattle.bb_net.specs.Netlists.{cell_at}
use Rattle.bb_word.specs.Gates.{Gates}

pub data Formula : Type 0 where
  Const : Bool → Formula
  Input : ℕ → Formula
  Not : Formula → Formula
  And : Formula → Formula → Formula
  Or : Formula → Formula → Formula
  Xor : Formula → Formula → Formula
  Mux : Formula → Formula → Formula → Formula

-- each gate is one more operator
abbrev pub formulas : Gates Formula
formulas = record {
  zero = Const false;
  one = Const true;
  inverse = Not;
  both = And;
  either = Or;
  differ = Xor;
  choice = Mux;
}

-- what a cell is made of, where part gives this for the places that it reads; there are no boxes
abbrev pub cell_formula : (ℕ → Formula) → Cell → Formula
cell_formula part (cells.Const b) = Const b
cell_formula part (cells.Input i) = Input i
cell_formula part (cells.Not a) = Not (part a)
cell_formula part (cells.And a b) = And (part a) (part b)
cell_formula part (cells.Or a b) = Or (part a) (part b)
cell_formula part (cells.Xor a b) = Xor (part a) (part b)
cell_formula part (cells.Mux c t e) = Mux (part c) (part t) (part e)
cell_formula part (cells.BoxOut b p) = Const false

-- the same, going from operand to operand at most n times
unfoldable pub formula_within : List Cell → ℕ → ℕ → Formula
formula_within all zero place = Const false
formula_within all (suc n) place = cell_formula (formula_within all n) (cell_at all place)

-- operands are earlier, so one step more than the place is enough
abbrev pub formula_at : List Cell → ℕ → Formula
formula_at all place = formula_within all (suc place) place

-- the bit of a formula, given those of the inputs
abbrev pub formula_bit : List Bool → Formula → Bool
formula_bit x (Const b) = b
formula_bit x (Input i) = slice_index_or x i false
formula_bit x (Not a) = not (formula_bit x a)
formula_bit x (And a b) = formula_bit x a && formula_bit x b
formula_bit x (Or a b) = formula_bit x a || formula_bit x b
formula_bit x (Xor a b) = xor (formula_bit x a) (formula_bit x b)
formula_bit x (Mux c t e) = if formula_bit x c then formula_bit x t else formula_bit x e
