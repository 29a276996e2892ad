-- The tables that a model of an expansion has in its first bits: those of the boxes that are shown, one for each
-- sharing class, box by box, row by row, output pin by output pin.
use Rattle.std.specs.Prelude.{ℕ, ◌*◌, ◌^◌, Bool, List, [], ◌∷◌, length, take, drop}
use Rattle.bb_bits.specs.Tables.{TableBits}
use Rattle.bb_net.specs.Netlists.{Pins}

-- how many bits the table of a box has
abbrev pub bits_of_table : Pins → ℕ
bits_of_table pins = length pins.outs * 2 ^ length pins.ins

-- the table of a box whose bits are the first of these
abbrev pub table_in : Pins → List Bool → TableBits
table_in pins bits = record { inputs = length pins.ins; outputs = length pins.outs; rows = take (bits_of_table pins) bits }

-- the tables of boxes, one after another
abbrev pub tables_in : List Pins → List Bool → List TableBits
tables_in [] bits = []
tables_in (pins ∷ boxes) bits = table_in pins bits ∷ tables_in boxes (drop (bits_of_table pins) bits)
