-- Tables as lines of a report: `table KEY PIN BITS` for each sharing class of boxes and each of its output pins, in
-- order. KEY is the path of the box or, where boxes of one module share their contents, the name of the module, and
-- PIN is the name of an output pin of the first box of the class. BITS has a bit for each row, row 0 first; a row's number is what the bits at the
-- input pins spell in binary, the first pin most significant.
use Rattle.std.specs.Prelude.{ℕ, ◌^◌, Bool, if◌then◌else◌, List, [], ◌++◌, length, map, zip, codes}
use Rattle.std.specs.List.{flat_map, range_with_len, slice_index_or}
use Rattle.bb_bits.specs.Tables.{TableBits, table_bit}
use Rattle.bb_net.specs.Pairs.{BoxTexts, box_key}

abbrev pub printed_bit : Bool → List ℕ
printed_bit b = if b then codes "1" else codes "0"

-- the bits of a table at an output pin, row by row
abbrev pub pin_column : TableBits → ℕ → List Bool
pin_column t pin = map (λ row. table_bit t row pin) (range_with_len 0 (2 ^ t.inputs))

abbrev pub table_line : List ℕ → List ℕ → List Bool → List ℕ
table_line key pin bits = codes "table " ++ key ++ codes " " ++ pin ++ codes " " ++ flat_map printed_bit bits ++ codes "\n"

-- the text of an output pin; a pin after the last one has none
abbrev pub printed_pin : BoxTexts → ℕ → List ℕ
printed_pin box pin = slice_index_or box.outs pin []

-- the lines of a box, one for each of its output pins
abbrev pub box_lines : Bool → BoxTexts × TableBits → List ℕ
box_lines shared b = flat_map (λ pin. table_line (box_key shared b.0) (printed_pin b.0 pin) (pin_column b.1 pin)) (range_with_len 0 (length b.0.outs))

-- those of some boxes, one after another
abbrev pub table_lines : Bool → List BoxTexts → List TableBits → List ℕ
table_lines shared boxes tables = flat_map (box_lines shared) (zip boxes tables)
