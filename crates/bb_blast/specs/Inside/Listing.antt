-- The list of cells of a design by numbers. A bit of a net is given by its number in net order, a cell by its place.
-- Constants and inputs come first, then a buffer for each bit of a net, then the other cells: pins of boxes, and what
-- constructs make.
use Rattle.std.specs.Prelude.{ℕ, ◌<◌, ◌≡◌, All, ◌+◌, Bool, true, false, if◌then◌else◌, List, [], ◌∷◌, ◌++◌, map, length, replicate, Option, Some, None, slice_get, slice_index, slice_set}
use Rattle.std.specs.List.{fold, zip, enumerate_from, range_with_len}
use Rattle.std.specs.Option.{option_map_or, option_and_then}
use Rattle.bb_ast.specs.declared.module.Gate.{Gate}
use Rattle.bb_net.specs.declared.loose.LooseCell.{LooseCell}
use Rattle.bb_net.specs.declared.loose.LooseCell.TheVariants as cell
use Rattle.bb_net.specs.Loose.{LooseList}
use Rattle.bb_net.specs.Netlists.{Pins}
use Rattle.bb_blast.specs.declared.box_cells.BoxedLists.{BoxedLists}
use Rattle.bb_blast.specs.declared.logic.Logic.{Logic}
use Rattle.bb_blast.specs.declared.template.Part.{Part}
use Rattle.bb_blast.specs.declared.template.Part.TheVariants as part
use Rattle.bb_blast.specs.declared.template.ModuleTemplate.{ModuleTemplate}
use Rattle.bb_blast.specs.declared.placed.Placed.{Placed}
use Rattle.bb_blast.specs.declared.cell_list.CellListLists.{CellListLists}
use Rattle.bb_blast.specs.declared.stored.Stored.{Stored}
use Rattle.bb_blast.specs.Inside.Counting.{capped, after}
use Rattle.bb_blast.specs.Inside.Logic.{IsLogicAmong, constant_place, operand_in, operand_place, with_logic, logic_places}
use Rattle.bb_design.specs.GateFunctions.{inverts}
use Rattle.bb_implements.specs.Places.{join_cell}

-- the place that drives each bit, where one does
abbrev pub Sources : Type 0
Sources = List (Option ℕ)

-- it is that of a bit that nothing drives yet
abbrev pub is_open : Option (Option ℕ) → Bool
is_open (Some None) = true
is_open (Some (Some place)) = false
is_open None = false

-- a bit is driven by a place, unless it is driven already
abbrev pub given_one : Sources → ℕ × ℕ → Sources
given_one sources x = if is_open (slice_get sources x.0) then slice_set sources x.0 (Some x.1) else sources

abbrev pub given_all : Sources → List (ℕ × ℕ) → Sources
given_all sources xs = fold given_one sources xs

-- the place that drives a bit; a bit without driver is the constant 0
abbrev pub place_or_zero : Option (Option ℕ) → ℕ
place_or_zero (Some (Some place)) = place
place_or_zero (Some None) = 0
place_or_zero None = 0

-- bits from a number on, each with its place
abbrev pub beside : ℕ → List ℕ → List ℕ → List (ℕ × ℕ)
beside first bits places = zip (map (after first) bits) places

-- bits from a number on, with places in a row
abbrev pub in_row : ℕ → List ℕ → ℕ → List (ℕ × ℕ)
in_row first bits base = map (λ x. (after first x.1, after base x.0)) (enumerate_from 0 bits)

abbrev pub all_given_by : ℕ → List ℕ → ℕ → List (ℕ × ℕ)
all_given_by first bits place = map (λ i. (after first i, place)) bits

-- a scope: the number of its first bit, those of the first bits of its nets, and those of the first bits of its
-- instances
pub record Site : Type 0 where
  pub first : ℕ
  pub starts : List ℕ
  pub inner : ℕ → ℕ

-- cells, and the place of each input of a gate
pub record Terminals : Type 0 where
  pub cells : List LooseCell
  pub places : List ℕ

abbrev pub with_terminal : ℕ → ℕ → List ℕ → Terminals → Logic → Terminals
with_terminal start bits starts t g = record {
  cells = with_logic start bits starts t.cells g;
  places = t.places ++ operand_place bits starts (after start (length t.cells)) (operand_in g.bits.items 0) ∷ [];
}

abbrev pub with_terminals : ℕ → ℕ → List ℕ → List LooseCell → List Logic → Terminals
with_terminals start bits starts cells ins = fold (with_terminal start bits starts) (record { cells = cells; places = [] }) ins

-- cells, and the place of what was made last
pub record Joining : Type 0 where
  pub cells : List LooseCell
  pub place : ℕ

abbrev pub joined_to : ℕ → Gate → Joining → ℕ → Joining
joined_to start gate j terminal = record { cells = j.cells ++ join_cell gate j.place terminal ∷ []; place = after start (length j.cells) }

abbrev pub joined : ℕ → Gate → List LooseCell → List ℕ → Joining
joined start gate cells [] = record { cells = cells; place = 0 }
joined start gate cells (first ∷ rest) = fold (joined_to start gate) (record { cells = cells; place = first }) rest

abbrev pub inverted : ℕ → Gate → Joining → Joining
inverted start gate j = if inverts gate then record { cells = j.cells ++ cell.Not j.place ∷ []; place = after start (length j.cells) } else j

-- the cells of a gate, and its place
abbrev pub gate_on : ℕ → Gate → Terminals → Joining
gate_on start gate t = inverted start gate (joined start gate t.cells t.places)

abbrev pub with_gate : ℕ → ℕ → List ℕ → Gate → List LooseCell → List Logic → Joining
with_gate start bits starts gate cells ins = gate_on start gate (with_terminals start bits starts cells ins)

-- the cells so far after the bits of nets, the place that drives each bit, and the one that drives each register bit's
-- next state
pub record CellList : Type 0 where
  pub cells : List LooseCell
  pub sources : Sources
  pub next : Sources

abbrev pub cell_list_view : CellListLists → CellList
cell_list_view s = record { cells = s.cells.items; sources = s.sources.items; next = s.next.items }

-- a part of a module with this many nets and instances
abbrev pub IsPartAmong : ℕ → ℕ → Part → Type 0
IsPartAmong n m (part.Assignment left right) = IsLogicAmong n right
IsPartAmong n m (part.Gate gate outs ins) = All (IsLogicAmong n) ins.items
IsPartAmong n m (part.Register left right clock falling) = IsLogicAmong n right
IsPartAmong n m (part.Supply high bits) = Unit {0}
IsPartAmong n m (part.Input instance pin value) = (instance < m) × IsLogicAmong n value
IsPartAmong n m (part.Output instance pin left) = instance < m

-- bits that are driven, and register bits that get their next state
abbrev pub giving : CellList → List (ℕ × ℕ) → CellList
giving cell_list xs = record { cells = cell_list.cells; sources = given_all cell_list.sources xs; next = cell_list.next }

abbrev pub giving_next : CellList → List (ℕ × ℕ) → CellList
giving_next cell_list xs = record { cells = cell_list.cells; sources = cell_list.sources; next = given_all cell_list.next xs }

abbrev pub with_operators : ℕ → ℕ → List ℕ → CellList → Logic → CellList
with_operators start bits starts cell_list g = record {
  cells = with_logic start bits starts cell_list.cells g;
  sources = cell_list.sources;
  next = cell_list.next;
}

-- a gate drives all its outputs
abbrev pub driven_by : CellList → Joining → ℕ → List ℕ → CellList
driven_by cell_list gate first outs = record {
  cells = gate.cells;
  sources = given_all cell_list.sources (all_given_by first outs gate.place);
  next = cell_list.next;
}

abbrev pub with_part : ℕ → ℕ → Site → CellList → Part → CellList
with_part nets start s cell_list (part.Assignment left right) =
    let bits = after nets s.first in
    giving (with_operators start bits s.starts cell_list right) (beside s.first left.items (logic_places start bits s.starts cell_list.cells right))
with_part nets start s cell_list (part.Gate gate outs ins) =
    driven_by cell_list (with_gate start (after nets s.first) s.starts gate cell_list.cells ins.items) s.first outs.items
with_part nets start s cell_list (part.Register left right clock falling) =
    let bits = after nets s.first in
    giving_next (with_operators start bits s.starts cell_list right) (beside s.first left.items (logic_places start bits s.starts cell_list.cells right))
with_part nets start s cell_list (part.Supply high bits) = giving cell_list (all_given_by s.first bits.items (constant_place high))
with_part nets start s cell_list (part.Input instance pin value) =
    let bits = after nets s.first in
    giving (with_operators start bits s.starts cell_list value) (beside (s.inner instance) pin.items (logic_places start bits s.starts cell_list.cells value))
with_part nets start s cell_list (part.Output instance pin left) =
    giving cell_list (beside s.first left.items (map (after (after nets (s.inner instance))) pin.items))

-- the number of the first bit of an instance in a scope
abbrev pub inner_first : List Placed → Placed → ℕ → ℕ
inner_first placed p instance = option_map_or (λ q. q.first) (option_and_then (slice_get placed) (slice_get p.children.items instance)) 0

abbrev pub site_of : List Placed → Placed → ModuleTemplate → Site
site_of placed p o = record { first = p.first; starts = o.starts.items; inner = inner_first placed p }

-- the parts of a scope with a template, if it has one
abbrev pub with_parts : ℕ → ℕ → List Placed → Placed → CellList → Option ModuleTemplate → CellList
with_parts nets start placed p cell_list None = cell_list
with_parts nets start placed p cell_list (Some o) = fold (with_part nets start (site_of placed p o)) cell_list o.parts.items

-- what a scope names is there
pub record IsScopeAmong (placed : List Placed) (templates : List ModuleTemplate) (p : Placed) : Type 0 where
  pub template : p.module < length templates
  pub children : All (λ c. c < length placed) p.children.items
  pub parts : (o : ModuleTemplate) → p.boxed ≡ false → slice_get templates p.module ≡ Some o → All (IsPartAmong (length o.starts.items) (length p.children.items)) o.parts.items

abbrev pub with_scope : ℕ → ℕ → List Placed → List ModuleTemplate → CellList → Placed → CellList
with_scope nets start placed templates cell_list p = if p.boxed then cell_list else with_parts nets start placed p cell_list (slice_get templates p.module)

-- the cells of pins, the place that drives each bit, and the boxes so far
pub record Boxed : Type 0 where
  pub cells : List LooseCell
  pub sources : Sources
  pub boxes : List Pins

abbrev pub boxed_view : BoxedLists → Boxed
boxed_view b = record { cells = b.cells.items; sources = b.sources.items; boxes = b.boxes.items }

abbrev pub with_pins : ℕ → ℕ → ℕ → Boxed → Option ModuleTemplate → Boxed
with_pins nets start first b None = b
with_pins nets start first b (Some o) = record {
  cells = b.cells ++ map (cell.BoxOut (capped (length b.boxes))) (range_with_len 0 (capped (length o.outputs.items)));
  sources = given_all b.sources (in_row first o.outputs.items (after start (length b.cells)));
  boxes = b.boxes ++ record {
    ins = map (after (after nets first)) o.inputs.items;
    outs = map (after (after start (length b.cells))) (range_with_len 0 (capped (length o.outputs.items)));
  } ∷ [];
}

abbrev pub with_box : ℕ → ℕ → List ModuleTemplate → Boxed → Placed → Boxed
with_box nets start templates b p = if p.boxed then with_pins nets start p.first b (slice_get templates p.module) else b

-- how many bits the nets of all scopes have
abbrev pub bit_count : List Placed → List ModuleTemplate → ℕ
bit_count placed templates = fold (λ n p. n + option_map_or (λ o. o.bits) (slice_get templates p.module) 0) 0 placed

-- the bits that are inputs: those of the input ports of the top, and the register bits
abbrev pub input_numbers : ModuleTemplate → List Stored → List ℕ
input_numbers top stored = top.inputs.items ++ map (λ x. x.bit) stored

abbrev pub boxed_in : ℕ → ℕ → List Placed → List ModuleTemplate → Sources → Boxed
boxed_in nets start placed templates sources = fold (with_box nets start templates) (record { cells = []; sources = sources; boxes = [] }) placed

abbrev pub cell_list_on : ℕ → ℕ → List Placed → List ModuleTemplate → Boxed → Sources → CellList
cell_list_on nets start placed templates b next = fold (with_scope nets start placed templates) (record { cells = b.cells; sources = b.sources; next = next }) placed

-- the constants, the inputs, and the bits of nets
abbrev pub cells_before : ℕ → Sources → List LooseCell
cells_before inputs sources = cell.Const false ∷ cell.Const true ∷ map cell.Input (range_with_len 0 inputs) ++ map (λ x. cell.Copy (place_or_zero (Some x))) sources

abbrev pub outs_of : ℕ → ModuleTemplate → List Stored → Sources → List ℕ
outs_of nets top stored next = map (after nets) top.outputs.items ++ map (λ x. place_or_zero (slice_get next x.bit)) stored

abbrev pub finished : ℕ → List Pins → CellList → List ℕ → LooseList
finished inputs boxes cell_list outs = record {
  inputs = inputs;
  cells = cells_before inputs cell_list.sources ++ cell_list.cells;
  boxes = boxes;
  outs = outs;
}

abbrev pub first_sources : ℕ → List ℕ → Sources
first_sources bits inputs = given_all (replicate bits None) (in_row 0 inputs 2)

-- the list of cells, for these inputs, their number, and the number of bits
abbrev pub listed_on : List ℕ → ℕ → ℕ → ℕ → ℕ → List Placed → List ModuleTemplate → List Stored → ModuleTemplate → LooseList
listed_on inputs count bits nets start placed templates stored top =
    let b = boxed_in nets start placed templates (first_sources bits inputs) in
    let cell_list = cell_list_on nets start placed templates b (replicate bits None) in
    finished count b.boxes cell_list (outs_of nets top stored cell_list.next)

abbrev pub listed : List Placed → List ModuleTemplate → List Stored → ModuleTemplate → LooseList
listed placed templates stored top =
    let inputs = input_numbers top stored in
    let count = capped (length inputs) in
    let bits = capped (bit_count placed templates) in
    let nets = after 2 count in
    listed_on inputs count bits nets (after nets bits) placed templates stored top
