-- Values of cells in three values: a bit that is known, or unknown. A box output is unknown. A gate's value is known
-- where the known values of its operands settle it: an and with an operand 0 is 0, an or with an operand 1 is 1, an xor
-- with an unknown operand is unknown (IEEE 1364-2005, 7.2), and a conditional whose condition is unknown is the bit
-- that both branches have (5.1.13).
use Rattle.std.specs.Prelude.{◌≡◌, ℕ, ◌<◌, zero, suc, Bool, true, false, not, List, length, map, Option, Some, None}
use Rattle.std.specs.List.{range_with_len, slice_index_or}
use Rattle.bb_net.specs.declared.cell.Cell.{Cell}
use Rattle.bb_net.specs.declared.cell.Cell.TheVariants.{Const, Input, Not, And, Or, Xor, Mux, BoxOut}
use Rattle.bb_net.specs.Netlists.{Netlist, cell_at}
use Rattle.bb_net.specs.Values.{bit_of, xor}

abbrev pub not3 : Option Bool → Option Bool
not3 None = None
not3 (Some a) = Some (not a)

abbrev pub and3 : Option Bool → Option Bool → Option Bool
and3 (Some false) b = Some false
and3 (Some true) b = b
and3 None (Some false) = Some false
and3 None (Some true) = None
and3 None None = None

abbrev pub or3 : Option Bool → Option Bool → Option Bool
or3 (Some true) b = Some true
or3 (Some false) b = b
or3 None (Some true) = Some true
or3 None (Some false) = None
or3 None None = None

abbrev pub xor3 : Option Bool → Option Bool → Option Bool
xor3 None b = None
xor3 (Some a) None = None
xor3 (Some a) (Some b) = Some (xor a b)

-- the bit that both have
abbrev pub same3 : Option Bool → Option Bool → Option Bool
same3 None e = None
same3 (Some t) None = None
same3 (Some true) (Some true) = Some true
same3 (Some true) (Some false) = None
same3 (Some false) (Some true) = None
same3 (Some false) (Some false) = Some false

abbrev pub mux3 : Option Bool → Option Bool → Option Bool → Option Bool
mux3 (Some true) t e = t
mux3 (Some false) t e = e
mux3 None t e = same3 t e

-- the value at a place of a list of values
abbrev pub tern_of : List (Option Bool) → ℕ → Option Bool
tern_of values place = slice_index_or values place None

-- the value of a cell, where value gives the values of the places that it reads
abbrev pub gate3 : List Bool → (ℕ → Option Bool) → Cell → Option Bool
gate3 x value (Const b) = Some b
gate3 x value (Input i) = Some (bit_of x i)
gate3 x value (Not a) = not3 (value a)
gate3 x value (And a b) = and3 (value a) (value b)
gate3 x value (Or a b) = or3 (value a) (value b)
gate3 x value (Xor a b) = xor3 (value a) (value b)
gate3 x value (Mux c t e) = mux3 (value c) (value t) (value e)
gate3 x value (BoxOut b p) = None

-- the value at a place, by at most this many steps from operand to operand
unfoldable pub tern_within : List Cell → List Bool → ℕ → ℕ → Option Bool
tern_within cells x zero place = None
tern_within cells x (suc n) place = gate3 x (tern_within cells x n) (cell_at cells place)

-- the value at a place: one step more than the place is enough
abbrev pub tern_at : List Cell → List Bool → ℕ → Option Bool
tern_at cells x place = tern_within cells x (suc place) place

-- the three-valued value of the cells
abbrev pub tern : Netlist → List Bool → List (Option Bool)
tern net x = map (tern_at net.cells x) (range_with_len 0 (length net.cells))

-- values are a three-valued value of a netlist: each is its gate's function of the values that it reads
pub record IsTern (net : Netlist) (x : List Bool) (values : List (Option Bool)) : Type 0 where
  pub whole : length values ≡ length net.cells
  pub each : (place : ℕ) → place < length net.cells → tern_of values place ≡ gate3 x (tern_of values) (cell_at net.cells place)
