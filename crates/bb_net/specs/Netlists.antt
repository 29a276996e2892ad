-- A netlist: a list of cells, in which a cell names other cells by their places, counted from 0. Places 0 and 1 hold
-- the constants 0 and 1, and the inputs follow in order. A black box is a part whose contents are open: it reads the
-- cells at its input pins, and each of its output pins is a cell of its own. Every cell reads only earlier cells.
use Rattle.std.specs.Prelude.{◌≡◌, ℕ, ◌+◌, ◌<◌, ◌≤◌, ◌^◌, true, false, List, [], ◌∷◌, ◌++◌, length, take, map, All, Contains, slice_index, slice_set, zero, suc}
use Rattle.std.specs.List.{range_with_len, slice_index_or}
use Rattle.bb_net.specs.declared.cell.Cell.{Cell}
use Rattle.bb_net.specs.declared.cell.Cell.TheVariants.{Const, Input, Not, And, Or, Xor, Mux, BoxOut}

-- the places of the cells at a box's input pins and of its output cells, both in pin order
pub record Pins : Type 0 where
  pub ins : List ℕ
  pub outs : List ℕ

-- a netlist: its number of inputs, its cells, its boxes, and the places of the cells at its outputs
pub record Netlist : Type 0 where
  pub inputs : ℕ
  pub cells : List Cell
  pub boxes : List Pins
  pub outs : List ℕ

-- the cell at a place; a constant past the end
abbrev pub cell_at : List Cell → ℕ → Cell
cell_at cells place = slice_index_or cells place (Const false)

-- the pins of box b; none past the end
abbrev pub box_at : List Pins → ℕ → Pins
box_at boxes b = slice_index_or boxes b (record { ins = []; outs = [] })

-- the constants and the inputs, with which the cells begin
abbrev pub first_cells : ℕ → List Cell
first_cells inputs = Const false ∷ Const true ∷ map Input (range_with_len 0 inputs)

-- a cell reads only places before this one, and an input is one of these inputs
abbrev pub ReadsBefore : ℕ → List Pins → ℕ → Cell → Type 0
ReadsBefore inputs boxes place (Const b) = Unit {0}
ReadsBefore inputs boxes place (Input i) = i < inputs
ReadsBefore inputs boxes place (Not a) = a < place
ReadsBefore inputs boxes place (And a b) = (a < place) × (b < place)
ReadsBefore inputs boxes place (Or a b) = (a < place) × (b < place)
ReadsBefore inputs boxes place (Xor a b) = (a < place) × (b < place)
ReadsBefore inputs boxes place (Mux c t e) = (c < place) × (t < place) × (e < place)
ReadsBefore inputs boxes place (BoxOut b p) = All (λ pin. pin < place) (box_at boxes b).ins

-- the places that a cell reads
abbrev pub reads_of : List Pins → Cell → List ℕ
reads_of boxes (Const b) = []
reads_of boxes (Input i) = []
reads_of boxes (Not a) = a ∷ []
reads_of boxes (And a b) = a ∷ b ∷ []
reads_of boxes (Or a b) = a ∷ b ∷ []
reads_of boxes (Xor a b) = a ∷ b ∷ []
reads_of boxes (Mux c t e) = c ∷ t ∷ e ∷ []
reads_of boxes (BoxOut b p) = (box_at boxes b).ins

-- a walk of this many steps leads from one place to another, each step from a cell to one that it reads
abbrev pub ReadsInSteps : ℕ → List Cell → List Pins → ℕ → ℕ → Type 0
ReadsInSteps zero cells boxes from to = from ≡ to
ReadsInSteps (suc n) cells boxes from to = (place : ℕ) × Contains (reads_of boxes (cell_at cells from)) place × ReadsInSteps n cells boxes place to

-- the value at a place depends on that at another
abbrev pub DependsOn : List Cell → List Pins → ℕ → ℕ → Type 0
DependsOn cells boxes from to = (n : ℕ) × ReadsInSteps n cells boxes from to

-- each cell reads only earlier cells
abbrev pub IsOrdered : Netlist → Type 0
IsOrdered net = (place : ℕ) → place < length net.cells → ReadsBefore net.inputs net.boxes place (cell_at net.cells place)

-- output pin p of box b is the cell at a place
abbrev pub IsPinAt : List Pins → ℕ → ℕ → ℕ → Type 0
IsPinAt boxes b p place = (p < length (box_at boxes b).outs) × (slice_index (box_at boxes b).outs p ≡ place)

-- what every netlist keeps
pub record IsNetlist (net : Netlist) : Type 0 where
  -- it begins with the constants and the inputs
  pub prefix : take (net.inputs + 2) net.cells ≡ first_cells net.inputs
  pub ordered : IsOrdered net
  -- the output pins of the boxes and the cells BoxOut are one to one
  pub listed : (place b p : ℕ) → place < length net.cells → cell_at net.cells place ≡ BoxOut b p → IsPinAt net.boxes b p place
  pub driven : (b p place : ℕ) → IsPinAt net.boxes b p place → (place < length net.cells) × (cell_at net.cells place ≡ BoxOut b p)
  -- what a box reads never depends on the box, nor on a later one
  pub boxes_ordered : (b c p pin place : ℕ) → b ≤ c → Contains (box_at net.boxes b).ins pin → DependsOn net.cells net.boxes pin place → cell_at net.cells place ≡ BoxOut c p → ⊥
  -- pins and outputs are cells
  pub pins_there : (b : ℕ) → All (λ pin. pin < length net.cells) (box_at net.boxes b).ins
  pub outs_there : All (λ place. place < length net.cells) net.outs
  -- places and boxes are counted in 32 bits
  pub cells_fit : length net.cells < 2 ^ 32
  pub boxes_fit : length net.boxes < 2 ^ 32

-- a cell may be added at the end: what it reads is there, and an output pin of a box is the next one of that box
abbrev pub MayBeAppended : Netlist → Cell → Type 0
MayBeAppended net (BoxOut b p) = (b < length net.boxes) × (p ≡ length (box_at net.boxes b).outs)
MayBeAppended net cell = ReadsBefore net.inputs net.boxes (length net.cells) cell

-- the boxes after a cell was added at a place: an output pin is listed at its box
abbrev pub with_pin : List Pins → ℕ → Cell → List Pins
with_pin boxes place (BoxOut b p) = slice_set boxes b (record (box_at boxes b) { outs = (box_at boxes b).outs ++ place ∷ [] })
with_pin boxes place cell = boxes

-- the netlist with one more cell
abbrev pub with_cell : Netlist → Cell → Netlist
with_cell net cell = record net { cells = net.cells ++ cell ∷ []; boxes = with_pin net.boxes (length net.cells) cell }

-- the netlist with one more box, which has these input pins and no output pin yet
abbrev pub with_box : Netlist → List ℕ → Netlist
with_box net ins = record net { boxes = net.boxes ++ record { ins = ins; outs = [] } ∷ [] }

-- the netlist with one more output
abbrev pub with_out : Netlist → ℕ → Netlist
with_out net place = record net { outs = net.outs ++ place ∷ [] }
