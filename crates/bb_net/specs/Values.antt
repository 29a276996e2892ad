-- The value of a netlist: one bit for each cell, in the order of the cells, the bit of a gate being its function of the
-- bits of its operands (IEEE 1364-2005, 7.2 for gates and 5.1.13 for the conditional, both without x and z). What the
-- boxes give is a parameter: the bit at output pin p of box b for a list of bits at its input pins, first pin first.
-- Free box outputs, tables and contents that several boxes share are choices of this parameter.
use Rattle.std.specs.Prelude.{[], ◌≡◌, ℕ, ◌+◌, ◌<◌, zero, suc, Bool, false, ◌&&◌, ◌||◌, not, if◌then◌else◌, List, length, map, take, sum_by}
use Rattle.std.specs.List.{range_with_len, slice_index_or}
use Rattle.bb_bits.specs.Numbers.{number_of}
use Rattle.bb_bits.specs.Tables.{TableBits, HasAllBits, table_bit}
pub use Rattle.bb_bits.specs.Bits.{xor}
use Rattle.bb_net.specs.declared.cell.Cell.{Cell}
use Rattle.bb_net.specs.declared.cell.Cell.TheVariants.{Const, Input, Not, And, Or, Xor, Mux, BoxOut}
use Rattle.bb_net.specs.Netlists.{Netlist, Pins, cell_at, box_at, IsNetlist}

-- the bit at a place of a list of bits
abbrev pub bit_of : List Bool → ℕ → Bool
bit_of bits place = slice_index_or bits place false

-- the bit of a cell, where value gives the bits of the places that it reads
abbrev pub gate : List Pins → List Bool → (ℕ → ℕ → List Bool → Bool) → (ℕ → Bool) → Cell → Bool
gate boxes x box value (Const b) = b
gate boxes x box value (Input i) = bit_of x i
gate boxes x box value (Not a) = not (value a)
gate boxes x box value (And a b) = value a && value b
gate boxes x box value (Or a b) = value a || value b
gate boxes x box value (Xor a b) = xor (value a) (value b)
gate boxes x box value (Mux c t e) = if value c then value t else value e
gate boxes x box value (BoxOut b p) = box b p (map value (box_at boxes b).ins)

-- the bit at a place, by at most this many steps from operand to operand
unfoldable pub bit_within : List Cell → List Pins → List Bool → (ℕ → ℕ → List Bool → Bool) → ℕ → ℕ → Bool
bit_within cells boxes x box zero place = false
bit_within cells boxes x box (suc n) place = gate boxes x box (bit_within cells boxes x box n) (cell_at cells place)

-- the bit at a place: a cell reads only earlier ones, so one step more than its place is enough
abbrev pub bit_at : List Cell → List Pins → List Bool → (ℕ → ℕ → List Bool → Bool) → ℕ → Bool
bit_at cells boxes x box place = bit_within cells boxes x box (suc place) place

-- the value of the cells, for what the boxes give
abbrev pub value_of : Netlist → List Bool → (ℕ → ℕ → List Bool → Bool) → List Bool
value_of net x box = map (bit_at net.cells net.boxes x box) (range_with_len 0 (length net.cells))

-- bits are a value of a netlist: one bit for each cell, which is its gate's function of the bits that it reads
pub record IsValue (net : Netlist) (x : List Bool) (box : ℕ → ℕ → List Bool → Bool) (bits : List Bool) : Type 0 where
  pub whole : length bits ≡ length net.cells
  pub each : (place : ℕ) → place < length net.cells → bit_of bits place ≡ gate net.boxes x box (bit_of bits) (cell_at net.cells place)

-- how many output pins the boxes have
abbrev pub output_pins : List Pins → ℕ
output_pins boxes = sum_by (λ pins. length pins.outs) boxes

-- free box outputs: one bit for each output pin, box after box, whatever the bits at the input pins
abbrev pub free_bit : List Pins → List Bool → ℕ → ℕ → List Bool → Bool
free_bit boxes z b p ins = bit_of z (output_pins (take b boxes) + p)

-- the value of the cells, for free box outputs z
abbrev pub flat : Netlist → List Bool → List Bool → List Bool
flat net x z = value_of net x (free_bit net.boxes z)

-- the table of box b; without bits past the end
abbrev pub table_at : List TableBits → ℕ → TableBits
table_at tables b = slice_index_or tables b (record { inputs = 0; outputs = 0; rows = [] })

-- box outputs by tables: the bit of the row at the box's input pins
abbrev pub tabled_bit : List TableBits → ℕ → ℕ → List Bool → Bool
tabled_bit tables b p ins = table_bit (table_at tables b) (number_of ins) p

-- one table for each box, with its numbers of pins and all its bits
pub record FitBoxes (tables : List TableBits) (boxes : List Pins) : Type 0 where
  pub count : length tables ≡ length boxes
  pub inputs : (b : ℕ) → b < length boxes → (table_at tables b).inputs ≡ length (box_at boxes b).ins
  pub outputs : (b : ℕ) → b < length boxes → (table_at tables b).outputs ≡ length (box_at boxes b).outs
  pub whole : (b : ℕ) → b < length boxes → HasAllBits (table_at tables b)

-- the value of the cells, for boxes that hold tables
abbrev pub flat_with : Netlist → List Bool → List TableBits → List Bool
flat_with net x tables = value_of net x (tabled_bit tables)

-- boxes that give the same at the bits of their input pins give the same value
abbrev pub ValueGoesByBoxes : Type 0
ValueGoesByBoxes = (net : Netlist) → IsNetlist net → (x : List Bool) (one other : ℕ → ℕ → List Bool → Bool)
    → ((b p : ℕ) → b < length net.boxes → p < length (box_at net.boxes b).outs → one b p (map (bit_of (value_of net x one)) (box_at net.boxes b).ins) ≡ other b p (map (bit_of (value_of net x one)) (box_at net.boxes b).ins))
    → value_of net x one ≡ value_of net x other
