-- The Boolean functions that the check by choices makes, as truth tables; it holds exactly their beads (Knuth, The Art
-- of Computer Programming, volume 4A, 7.1.4). The variables are the pins of the boxes, box after box, each box's input
-- pins and then its output pins, and after them the inputs. Each variable is one of the functions. In a report they
-- matter for `nodes` only.
use Rattle.std.specs.Prelude.{ℕ, ◌+◌, Bool, not, ◌&&◌, ◌||◌, List, [], ◌∷◌, ◌++◌, length, map, take, drop, slice_index}
use Rattle.std.specs.List.{flat_map, range_with_len}
use Rattle.bb_bits.specs.Truth.{Truth, quantified_block}
use Rattle.bb_net.specs.Conditions.{PinBits, all_outs}
use Rattle.bb_net.specs.Netlists.{Netlist, Pins}
use Rattle.bb_net.specs.Pairs.{pin_count}
use Rattle.bb_net.specs.Values.{bit_of}
use Rattle.bb_sym.specs.Plain.{Function, Reading, table, tables, output_numbers, differ, one_of, first_of, cell_bit, is_wrong_at, plain_functions_at, block_functions}

-- how many variables there are
abbrev pub pins_and_inputs : Netlist → ℕ
pins_and_inputs imp = pin_count imp.boxes + imp.inputs

-- the bits that a point gives to the pins of boxes
abbrev pub point_pins : List Pins → List Bool → List PinBits
point_pins [] p = []
point_pins (box ∷ boxes) p =
    record { ins = take (length box.ins) p; outs = take (length box.outs) (drop (length box.ins) p) } ∷ point_pins boxes (drop (length box.ins + length box.outs) p)

-- the inputs are what follows the pins
abbrev pub boxes_first : Netlist → Reading
boxes_first imp = record { inputs = drop (pin_count imp.boxes); pins = λ p. all_outs (point_pins imp.boxes p) }

-- the bits that a point gives to the input pins, box after box, and the cells there
abbrev pub given_ins : Netlist → List Bool → List Bool
given_ins imp p = flat_map (λ bits. bits.ins) (point_pins imp.boxes p)

abbrev pub in_places : List Pins → List ℕ
in_places boxes = flat_map (λ pins. pins.ins) boxes

-- the cells at all pins, in the order of their variables
abbrev pub pin_places : List Pins → List ℕ
pin_places boxes = flat_map (λ pins. pins.ins ++ pins.outs) boxes

-- the numbers of the input pins of all boxes
abbrev pub in_pins : Netlist → List ℕ
in_pins imp = range_with_len 0 (length (in_places imp.boxes))

-- an input pin has not the bit that its cell has
abbrev pub is_missed : Netlist → ℕ → Function
is_missed imp q = differ (λ p. bit_of (given_ins imp p) q) (cell_bit (boxes_first imp) imp (slice_index (in_places imp.boxes) q))

-- output j is wrong
abbrev pub is_wrong_output : Netlist → Netlist → ℕ → Function
is_wrong_output spec imp j = is_wrong_at (boxes_first imp) spec imp j

-- some output is wrong
abbrev pub has_wrong : Netlist → Netlist → Function
has_wrong spec imp = one_of (is_wrong_output spec imp) (length imp.outs)

-- the inputs lead to the bits at all input pins
abbrev pub leads : Netlist → Function
leads imp = λ p. not (one_of (is_missed imp) (length (in_places imp.boxes)) p)

-- both
abbrev pub refutes : Netlist → Netlist → Function
refutes spec imp = λ p. has_wrong spec imp p && leads imp p

-- the bits at the pins do not suit: some inputs lead to them, and some output is wrong
abbrev pub refuted : Netlist → Netlist → Truth
refuted spec imp = quantified_block ◌||◌ (pin_count imp.boxes) imp.inputs (table (pins_and_inputs imp) (refutes spec imp))

-- a table with the output pins of a box quantified by "for all" and then its input pins by "exists", the first variable
-- given
abbrev pub outs_quantified : ℕ → Pins → Truth → Truth
outs_quantified first box t = quantified_block ◌&&◌ (first + length box.ins) (length box.outs) t

abbrev pub box_quantified : ℕ → Pins → Truth → Truth
box_quantified first box t = quantified_block ◌||◌ first (length box.ins) (outs_quantified first box t)

-- the same for boxes, the last one first
abbrev pub boxes_quantified : ℕ → List Pins → Truth → Truth
boxes_quantified first [] t = t
boxes_quantified first (box ∷ boxes) t = box_quantified first box (boxes_quantified (first + (length box.ins + length box.outs)) boxes t)

-- the functions on the way, one for each variable
abbrev pub box_functions : ℕ → Pins → Truth → List Truth
box_functions first box t =
    block_functions ◌&&◌ (first + length box.ins) (length box.outs) t ++ block_functions ◌||◌ first (length box.ins) (outs_quantified first box t)

abbrev pub boxes_functions : ℕ → List Pins → Truth → List Truth
boxes_functions first [] t = []
boxes_functions first (box ∷ boxes) t =
    let next = first + (length box.ins + length box.outs) in
    boxes_functions next boxes t ++ box_functions first box (boxes_quantified next boxes t)

-- 1 where no choices suit
abbrev pub lost : Netlist → Netlist → Truth
lost spec imp = boxes_quantified 0 imp.boxes (refuted spec imp)

-- 1 where no choices suit for the boxes after box b, the pins up to its own having the bits of the point
abbrev pub stage : Netlist → Netlist → ℕ → Truth
stage spec imp b = boxes_quantified (pin_count (take (b + 1) imp.boxes)) (drop (b + 1) imp.boxes) (refuted spec imp)

-- where outputs are wrong, and where input pins have other bits than their cells: each function, and their folds by or
abbrev pub wrong_functions : Netlist → Netlist → List Truth
wrong_functions spec imp = tables (pins_and_inputs imp) (map (is_wrong_output spec imp) (output_numbers imp)) ++ tables (pins_and_inputs imp) (map (first_of (is_wrong_output spec imp)) (output_numbers imp))

abbrev pub missed_functions : Netlist → List Truth
missed_functions imp = tables (pins_and_inputs imp) (map (is_missed imp) (in_pins imp)) ++ tables (pins_and_inputs imp) (map (first_of (is_missed imp)) (in_pins imp))

-- the inputs quantified by "exists", and then the boxes
abbrev pub quantified_functions : Netlist → Netlist → List Truth
quantified_functions spec imp =
    block_functions ◌||◌ (pin_count imp.boxes) imp.inputs (table (pins_and_inputs imp) (refutes spec imp)) ++ boxes_functions 0 imp.boxes (refuted spec imp)

abbrev pub input_functions : Netlist → Netlist → List Truth
input_functions spec imp =
    plain_functions_at (pins_and_inputs imp) (boxes_first imp) spec imp ++ (
    wrong_functions spec imp ++ (
    missed_functions imp ++ (
    tables (pins_and_inputs imp) (leads imp ∷ refutes spec imp ∷ []) ++
    quantified_functions spec imp)))
