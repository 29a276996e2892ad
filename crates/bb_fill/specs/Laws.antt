-- Laws of the filled text, and the definitions that laws alone need.
use Rattle.std.specs.Prelude.{◌≡◌, ◌≢◌, ◌⊎◌, ℕ, ◌+◌, ◌-◌, ◌*◌, ◌<◌, ◌≤◌, ◌^◌, Bool, true, false, not, ◌&&◌, ◌||◌, if◌then◌else◌, List, [], ◌∷◌, ◌++◌, length, map, reverse, fold, All, AllPairs, Contains, Option, None, Some, codes, decimal, slice_get, sum_by}
use Rattle.std.specs.List.{flat_map, slice_index_or}
use Rattle.bb_bits.specs.Numbers.{number_of}
use Rattle.bb_bits.specs.Tables.{TableBits, table_bit, column}
use Rattle.bb_net.specs.declared.flat.Reg.{Reg as Register}
use Rattle.bb_net.specs.Equivalence.{IsVector, out_bit}
use Rattle.bb_net.specs.CutPoints.{clock_text, state_texts}
use Rattle.bb_net.specs.Flats.{FlatNet, IsFlat, HaveClocks}
use Rattle.bb_net.specs.Netlists.{Pins}
use Rattle.bb_net.specs.Values.{FitBoxes, bit_of, flat_with, xor}
use Rattle.bb_fill.specs.Words.{NetWord, Bit, Named, CellNet, ChoiceNet, maximum, stem_of, texts_of, word_at}
use Rattle.bb_fill.specs.Lines.{Line, Primitive, Not, And, Or, Xor, Buf, Module, Input, Output, Reg, Gate, Assign, Always, End}
use Rattle.bb_fill.specs.Trees.{tree_lines, tree_values}
use Rattle.bb_fill.specs.Filled.{filled_lines, filled_text, lines_of_cells, output_text}
use Rattle.bb_fill.specs.Clashes.{AreNamesApart}
use Rattle.bb_fill.specs.Sizes.{IsSmallText, most_nets, net_count}
use Rattle.bb_fill.specs.Answers.{Answer, IsFillAnswer}

-- the bit of a gate for those of its inputs (IEEE 1364-2005, 7.2 and 7.3)
abbrev pub gate_bit : Primitive → List Bool → Bool
gate_bit Not bits = not (bit_of bits 0)
gate_bit And bits = fold ◌&&◌ true bits
gate_bit Or bits = fold ◌||◌ false bits
gate_bit Xor bits = fold xor false bits
gate_bit Buf bits = bit_of bits 0

-- where each word has a bit: the output of a gate has the gate's bit, and the left side of an assignment that of the side that is chosen. A
-- declaration says nothing of bits, and a register takes its bit at an edge.
abbrev pub IsMet : (NetWord → Bool) → Line → Type 0
IsMet bit (Gate primitive out ins) = bit out ≡ gate_bit primitive (map bit ins)
IsMet bit (Assign left condition high low) = bit left ≡ (if bit condition then bit high else bit low)
IsMet bit line = Unit {0}

abbrev pub AreMet : (NetWord → Bool) → List Line → Type 0
AreMet bit lines = All (IsMet bit) lines

-- the value of a tree is one word. Whatever bits the pins have, it has the bit of the row whose number they spell, the first pin most
-- significant.
abbrev pub TreesChoose : Type 0
TreesChoose = (bit : NetWord → Bool) → ((b : Bool) → bit (Bit b) ≡ b)
    → (t : TableBits) (p number : ℕ) (pins : List NetWord) → length pins ≡ t.inputs
    → AreMet bit (tree_lines (reverse pins) number (map Bit (column t p)))
    → (value : NetWord) × (tree_values (reverse pins) number (map Bit (column t p)) ≡ value ∷ []) × (bit value ≡ table_bit t (number_of (map bit pins)) p)

-- there is an answer, and only one
abbrev pub AnswersExist : Type 0
AnswersExist = (f : FlatNet) (tables : List TableBits) → (answer : Answer) × IsFillAnswer f tables answer

abbrev pub AnswersAreOne : Type 0
AnswersAreOne = (f : FlatNet) (tables : List TableBits) (one other : Answer) → IsFillAnswer f tables one → IsFillAnswer f tables other → one ≡ other

-- the name of a word in Verilog: the backslash and the blank of an escaped name are no part of it (IEEE 1364-2005,
-- 3.7.1), and a number is no name
abbrev pub identifier : List ℕ → NetWord → Option (List ℕ)
identifier stem (Bit b) = None
identifier stem (Named name) = Some name
identifier stem (CellNet number) = Some (stem ++ decimal number)
identifier stem (ChoiceNet number) = Some (stem ++ codes "t" ++ decimal number)

-- the words of a text: names are those of ports and registers, and numbers have 64 bits
abbrev pub IsWordOf : FlatNet → NetWord → Type 0
IsWordOf f (Bit b) = Unit {0}
IsWordOf f (Named name) = Contains (texts_of f) name
IsWordOf f (CellNet number) = number < 2 ^ 64
IsWordOf f (ChoiceNet number) = number < 2 ^ 64

-- two words of one name are one: no net has the name of another, or of a port or a register
abbrev pub WordsAreApart : Type 0
WordsAreApart = (f : FlatNet) (one other : NetWord) (name : List ℕ) → IsWordOf f one → IsWordOf f other → identifier (stem_of f) one ≡ Some name → identifier (stem_of f) other ≡ Some name → one ≡ other

-- numbers are themselves, and the names of inputs and registers have the bits of a vector of the netlist
pub record GivesBitsOf (f : FlatNet) (x : List Bool) (bit : NetWord → Bool) : Type 0 where
  pub numbers : (b : Bool) → bit (Bit b) ≡ b
  pub inputs : (i : ℕ) → i < f.net.inputs → bit (Named (slice_index_or (f.ins ++ state_texts f) i [])) ≡ bit_of x i

-- where the lines are met at a vector, each cell's word has the cell's bit by the tables, and so has each output's name
pub record HaveBits (f : FlatNet) (tables : List TableBits) (x : List Bool) (bit : NetWord → Bool) : Type 0 where
  pub cells : (k : ℕ) → k < length f.net.cells → bit (word_at f k) ≡ bit_of (flat_with f.net x tables) k
  pub outputs : (o : ℕ) → o < length f.outs → bit (Named (output_text f o)) ≡ out_bit f.net (flat_with f.net x tables) o

-- there is a table for each box, and no name clashes
pub record IsReady (f : FlatNet) (tables : List TableBits) : Type 0 where
  pub flat : IsFlat f
  pub fit : FitBoxes tables f.net.boxes
  pub names : AreNamesApart f

abbrev pub LinesHaveBits : Type 0
LinesHaveBits = (f : FlatNet) (tables : List TableBits) → IsReady f tables → (x : List Bool) (bit : NetWord → Bool) → IsVector f.net x
    → GivesBitsOf f x bit → AreMet bit (filled_lines f tables) → HaveBits f tables x bit

-- a line has a register take this bit, at its edge and by its clock
pub record IsTaken (f : FlatNet) (tables : List TableBits) (bit : NetWord → Bool) (register : Register) (next : Bool) : Type 0 where
  pub clock : List ℕ
  pub data_word : NetWord
  pub line : Contains (filled_lines f tables) (Always register.falling clock register.text data_word)
  pub clocked : clock_text f register ≡ Some clock
  pub takes : bit data_word ≡ next

-- and each register takes its next state by the tables
abbrev pub RegistersTakeBits : Type 0
RegistersTakeBits = (f : FlatNet) (tables : List TableBits) → IsReady f tables → HaveClocks f → (x : List Bool) (bit : NetWord → Bool) → IsVector f.net x
    → GivesBitsOf f x bit → AreMet bit (filled_lines f tables)
    → (r : ℕ) (register : Register) → slice_get f.regs r ≡ Some register → IsTaken f tables bit register (out_bit f.net (flat_with f.net x tables) (length f.outs + r))

-- at each vector some bits meet the lines
abbrev pub LinesCanBeMet : Type 0
LinesCanBeMet = (f : FlatNet) (tables : List TableBits) → IsReady f tables → (x : List Bool) → IsVector f.net x
    → (bit : NetWord → Bool) × GivesBitsOf f x bit × AreMet bit (filled_lines f tables)

-- what a line drives
abbrev pub driven : Line → List NetWord
driven (Gate primitive out ins) = out ∷ []
driven (Assign left condition high low) = left ∷ []
driven (Always falling clock name data_word) = Named name ∷ []
driven line = []

-- the inputs and what the lines drive
abbrev pub all_nets : FlatNet → List TableBits → List NetWord
all_nets f tables = map Named f.ins ++ flat_map driven (filled_lines f tables)

-- these are different words, as many as the text has nets
abbrev pub NetsAreDrivenOnce : Type 0
NetsAreDrivenOnce = (f : FlatNet) (tables : List TableBits) → IsReady f tables → AllPairs ◌≢◌ (all_nets f tables) × (length (all_nets f tables) ≡ net_count f tables)

-- the words of a line
abbrev pub line_words : Line → List NetWord
line_words (Module ports) = map Named ports
line_words (Input name) = Named name ∷ []
line_words (Output name) = Named name ∷ []
line_words (Reg name) = Named name ∷ []
line_words (Gate primitive out ins) = out ∷ ins
line_words (Assign left condition high low) = left ∷ condition ∷ high ∷ low ∷ []
line_words (Always falling clock name data_word) = Named clock ∷ Named name ∷ data_word ∷ []
line_words End = []

-- what a line reads
abbrev pub line_reads : Line → List NetWord
line_reads (Gate primitive out ins) = ins
line_reads (Assign left condition high low) = condition ∷ high ∷ low ∷ []
line_reads (Always falling clock name data_word) = Named clock ∷ data_word ∷ []
line_reads line = []

-- each word of the lines is a number or one of these nets
abbrev pub IsNumber : NetWord → Type 0
IsNumber word = (b : Bool) × (word ≡ Bit b)

abbrev pub WordsAreNets : Type 0
WordsAreNets = (f : FlatNet) (tables : List TableBits) → IsReady f tables → HaveClocks f → All (λ word. IsNumber word ⊎ Contains (all_nets f tables) word) (flat_map line_words (filled_lines f tables))

-- and where the text is not too large, they are words of the netlist, no two of one name
abbrev pub WordsAreOfNetlist : Type 0
WordsAreOfNetlist = (f : FlatNet) (tables : List TableBits) → IsReady f tables → HaveClocks f → IsSmallText f tables → All (IsWordOf f) (flat_map line_words (filled_lines f tables))

-- what a line reads is a number, an input, a register, or driven by a line before it, so no net depends on itself but through a register
abbrev pub LinesReadWhatIsDriven : Type 0
LinesReadWhatIsDriven = (f : FlatNet) (tables : List TableBits) → IsReady f tables → HaveClocks f → (before after : List Line) (line : Line) → filled_lines f tables ≡ before ++ line ∷ after
    → All (λ word. IsNumber word ⊎ Contains (map Named (f.ins ++ state_texts f) ++ flat_map driven before) word) (line_reads line)

-- the choices of the trees that implement a box: 2^k - 1 for each output pin, where it has k input pins
abbrev pub tree_choices : Pins → ℕ
tree_choices pins = length pins.outs * (2 ^ length pins.ins - 1)

-- cells have at most so many lines: one each, but for constants and inputs, and one for each choice
abbrev pub LinesAreFew : Type 0
LinesAreFew = (f : FlatNet) (tables : List TableBits) → IsReady f tables
    → length (lines_of_cells f tables) + (f.net.inputs + 2) ≤ length f.net.cells + sum_by tree_choices f.net.boxes

-- the most bytes that a name in the text has
abbrev pub longest_name : FlatNet → ℕ
longest_name f = maximum (map length (texts_of f))

-- a text that has not too many nets has at most so many bytes: those of its first and its last line, and for each input,
-- register, output and line of a cell four words, each with 15 bytes more than the longest name
abbrev pub TextsAreShort : Type 0
TextsAreShort = (f : FlatNet) (tables : List TableBits) → IsReady f tables → HaveClocks f → net_count f tables ≤ most_nets
    → length (filled_text f tables)
    ≤ 27 + (length f.ins + length f.regs + length f.outs + length (lines_of_cells f tables)) * (4 * (longest_name f + 15))
