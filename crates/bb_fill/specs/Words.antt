-- The words of a filled text. A bit that has a text of its own, of a port or of a register, has it as its name, an
-- escaped one (IEEE 1364-2005, 3.7.1): a backslash, the bytes of the text, and a blank. Every other cell but a constant
-- drives a net of its own, whose name is the stem and the number of the cell; so does every choice in a tree, with a t
-- before its number. The stem is a run of `_` that is longer than any with which a text begins, so that no such net has
-- the name of a port or a register.
use Rattle.std.specs.Prelude.{ℕ, ◌+◌, ◌==◌, max, Bool, if◌then◌else◌, List, [], ◌∷◌, ◌++◌, map, replicate, codes, decimal}
use Rattle.std.specs.List.{slice_index_or}
use Rattle.bb_net.specs.declared.cell.Cell.{Cell}
use Rattle.bb_net.specs.declared.cell.Cell.TheVariants.{Const, Input}
use Rattle.bb_net.specs.Netlists.{cell_at}
use Rattle.bb_net.specs.Flats.{FlatNet}
use Rattle.bb_net.specs.CutPoints.{state_texts}

pub data NetWord : Type 0 where
  -- a bit, as a number of one bit
  Bit : Bool → NetWord
  -- a port or a register, by its text
  Named : List ℕ → NetWord
  -- the net of the cell with a number
  CellNet : ℕ → NetWord
  -- the net of the choice with a number
  ChoiceNet : ℕ → NetWord

-- a name as it is printed
abbrev pub printed : List ℕ → List ℕ
printed name = codes "\\" ++ name ++ codes " "

-- a word as it is printed, where the stem is given
abbrev pub word_text : List ℕ → NetWord → List ℕ
word_text stem (Bit b) = if b then codes "1'b1" else codes "1'b0"
word_text stem (Named name) = printed name
word_text stem (CellNet number) = stem ++ decimal number
word_text stem (ChoiceNet number) = stem ++ codes "t" ++ decimal number

-- with how many `_` a text begins
abbrev pub leading : List ℕ → ℕ
leading [] = 0
leading (byte ∷ bytes) = if byte == 95 then 1 + leading bytes else 0

-- the greatest of some numbers, and 0 where there is none
abbrev pub maximum : List ℕ → ℕ
maximum [] = 0
maximum (n ∷ ns) = max n (maximum ns)

-- the texts of a netlist's inputs, registers and outputs
abbrev pub texts_of : FlatNet → List (List ℕ)
texts_of f = f.ins ++ state_texts f ++ f.outs

-- `_` once more than any text begins with
abbrev pub stem_of : FlatNet → List ℕ
stem_of f = replicate (maximum (map leading (texts_of f)) + 1) 95

-- the word of the cell with a number: its bit where it is a constant, the text of the input or register that it is, or
-- else its net. The inputs of the netlist are those of the top and then the registers.
abbrev pub cell_word : FlatNet → ℕ → Cell → NetWord
cell_word f number (Const b) = Bit b
cell_word f number (Input i) = Named (slice_index_or (f.ins ++ state_texts f) i [])
cell_word f number cell = CellNet number

abbrev pub word_at : FlatNet → ℕ → NetWord
word_at f number = cell_word f number (cell_at f.net.cells number)
