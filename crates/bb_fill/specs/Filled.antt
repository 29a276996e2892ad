-- The filled text: one module in Verilog for a flat netlist whose boxes hold tables. Its ports are the inputs and the
-- outputs of the netlist and its registers are registers. A gate implements each gate of the netlist, a conditional
-- each multiplexer, and a tree of choices over its table each output pin of a box. An output is a buffer of its cell,
-- or the register of the same text.
use Rattle.std.specs.Prelude.{ℕ, ◌+◌, ◌-◌, ◌^◌, if◌then◌else◌, List, [], ◌∷◌, ◌++◌, length, map, take, reverse, sum_by, slice_index}
use Rattle.std.specs.List.{flat_map, range_with_len, slice_index_or}
use Rattle.std.specs.Option.{unwrap_or}
use Rattle.bb_bits.specs.Earlier.{has_name}
use Rattle.bb_bits.specs.Tables.{TableBits, column}
use Rattle.bb_net.specs.declared.cell.Cell.{Cell}
use Rattle.bb_net.specs.declared.cell.Cell.TheVariants as cells
use Rattle.bb_net.specs.declared.flat.Reg.{Reg as Register}
use Rattle.bb_net.specs.Netlists.{Pins, box_at, cell_at}
use Rattle.bb_net.specs.Values.{table_at}
use Rattle.bb_net.specs.Flats.{FlatNet}
use Rattle.bb_net.specs.CutPoints.{clock_text, state_texts}
use Rattle.bb_fill.specs.Words.{NetWord, Bit, Named, CellNet, stem_of, word_at}
use Rattle.bb_fill.specs.Lines.{Line, Module, Input, Output, Reg, Gate, Assign, Always, End, Not, And, Or, Xor, Buf, line_text}
use Rattle.bb_fill.specs.Trees.{tree_lines, tree_values}

-- how many choices implement a cell: a tree over n input pins has 2^n - 1
abbrev pub choice_count : List Pins → Cell → ℕ
choice_count boxes (cells.BoxOut b p) = 2 ^ length (box_at boxes b).ins - 1
choice_count boxes cell = 0

-- the number of a cell's first choice: choices are numbered from 0, cell after cell
abbrev pub first_choice : FlatNet → ℕ → ℕ
first_choice f k = sum_by (choice_count f.net.boxes) (take k f.net.cells)

-- the words of the input pins of a box, from the last to the first
abbrev pub pin_words : FlatNet → ℕ → List NetWord
pin_words f b = reverse (map (word_at f) (box_at f.net.boxes b).ins)

-- the bits of an output pin of a box, as words
abbrev pub output_pin_words : List TableBits → ℕ → ℕ → List NetWord
output_pin_words tables b p = map Bit (column (table_at tables b) p)

-- the lines of the cell with a number; a constant and an input have none
abbrev pub cell_lines : FlatNet → List TableBits → ℕ → Cell → List Line
cell_lines f tables k (cells.Const b) = []
cell_lines f tables k (cells.Input i) = []
cell_lines f tables k (cells.Not a) = Gate Not (CellNet k) (word_at f a ∷ []) ∷ []
cell_lines f tables k (cells.And a b) = Gate And (CellNet k) (word_at f a ∷ word_at f b ∷ []) ∷ []
cell_lines f tables k (cells.Or a b) = Gate Or (CellNet k) (word_at f a ∷ word_at f b ∷ []) ∷ []
cell_lines f tables k (cells.Xor a b) = Gate Xor (CellNet k) (word_at f a ∷ word_at f b ∷ []) ∷ []
cell_lines f tables k (cells.Mux c t e) = Assign (CellNet k) (word_at f c) (word_at f t) (word_at f e) ∷ []
cell_lines f tables k (cells.BoxOut b p) =
    tree_lines (pin_words f b) (first_choice f k) (output_pin_words tables b p)
    ++ Gate Buf (CellNet k) (tree_values (pin_words f b) (first_choice f k) (output_pin_words tables b p)) ∷ []

-- the lines of all cells in order
abbrev pub lines_of_cells : FlatNet → List TableBits → List Line
lines_of_cells f tables = flat_map (λ k. cell_lines f tables k (cell_at f.net.cells k)) (range_with_len 0 (length f.net.cells))

-- the text of the output with a number
abbrev pub output_text : FlatNet → ℕ → List ℕ
output_text f o = slice_index_or f.outs o []

-- the line of an output; one that has the text of a register is this register, and has none
abbrev pub output_lines : FlatNet → ℕ → List Line
output_lines f o = if has_name (output_text f o) (state_texts f) then [] else Gate Buf (Named (output_text f o)) (word_at f (slice_index f.net.outs o) ∷ []) ∷ []

-- what the register with a number takes: the netlist's output after those of the top
abbrev pub next_word : FlatNet → ℕ → NetWord
next_word f r = word_at f (slice_index f.net.outs (length f.outs + r))

-- the line of a register
abbrev pub register_line : FlatNet → ℕ → Register → Line
register_line f r register = Always register.falling (unwrap_or (clock_text f register) []) register.text (next_word f r)

abbrev pub register_lines : FlatNet → ℕ → List Register → List Line
register_lines f r [] = []
register_lines f r (register ∷ registers) = register_line f r register ∷ register_lines f (r + 1) registers

-- all lines of the text; there is one table for each box
abbrev pub filled_lines : FlatNet → List TableBits → List Line
filled_lines f tables =
    Module (f.ins ++ f.outs) ∷ map Input f.ins ++ map Output f.outs ++ map Reg (state_texts f)
    ++ lines_of_cells f tables ++ flat_map (output_lines f) (range_with_len 0 (length f.outs)) ++ register_lines f 0 f.regs ++ End ∷ []

abbrev pub filled_text : FlatNet → List TableBits → List ℕ
filled_text f tables = flat_map (line_text (stem_of f)) (filled_lines f tables)
