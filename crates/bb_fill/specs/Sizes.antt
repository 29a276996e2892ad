-- When no filled text is made because of its size. A text is read again only where it has at most 33,554,432 bytes and is a design of at most a
-- million bits of nets and two million cells. These are counted for the one module of the text. Its nets are its ports and registers, an output
-- that is a register being one net, and a net for each line that a cell of the netlist gives. Its cells are two constants, one for
-- each input and register, and one for each gate and conditional; a buf only copies.
use Rattle.std.specs.Prelude.{◌⊎◌, ℕ, ◌+◌, ◌<◌, ◌≤◌, Bool, true, false, not, List, length}
use Rattle.std.specs.List.{filter}
use Rattle.bb_bits.specs.Earlier.{has_name}
use Rattle.bb_bits.specs.Tables.{TableBits}
use Rattle.bb_net.specs.Flats.{FlatNet}
use Rattle.bb_net.specs.CutPoints.{state_texts}
use Rattle.bb_fill.specs.Lines.{Line, Gate, Buf}
use Rattle.bb_fill.specs.Filled.{filled_text, lines_of_cells}

abbrev pub most_bytes : ℕ
most_bytes = 33554432

abbrev pub most_nets : ℕ
most_nets = 1000000

abbrev pub most_filled_cells : ℕ
most_filled_cells = 2000000

-- the outputs that are no registers
abbrev pub plain_outputs : FlatNet → List (List ℕ)
plain_outputs f = filter (λ text. not (has_name text (state_texts f))) f.outs

-- how many bits of nets the text has
abbrev pub net_count : FlatNet → List TableBits → ℕ
net_count f tables = length f.ins + length f.regs + length (plain_outputs f) + length (lines_of_cells f tables)

-- the line of a cell is a gate or a conditional, and no buffer
abbrev pub makes_cell : Line → Bool
makes_cell (Gate Buf out ins) = false
makes_cell line = true

-- how many cells it has
abbrev pub filled_cell_count : FlatNet → List TableBits → ℕ
filled_cell_count f tables = 2 + length f.ins + length f.regs + length (filter makes_cell (lines_of_cells f tables))

-- the text is too large
abbrev pub IsTooLargeText : FlatNet → List TableBits → Type 0
IsTooLargeText f tables = (most_bytes < length (filled_text f tables)) ⊎ ((most_nets < net_count f tables) ⊎ (most_filled_cells < filled_cell_count f tables))

-- it is not
pub record IsSmallText (f : FlatNet) (tables : List TableBits) : Type 0 where
  pub bytes : length (filled_text f tables) ≤ most_bytes
  pub nets : net_count f tables ≤ most_nets
  pub cells : filled_cell_count f tables ≤ most_filled_cells
