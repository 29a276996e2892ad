-- The diagrams of the check by choices: a Ref for each function that the quantification of the boxes passes, the last
-- box first, and one for the bit of the cell at each pin. A store holds a function once, so equal Refs are equal
-- functions.
use Rattle.std.specs.Prelude.{◌≡◌, ◌<◌, ℕ, List, [], ◌∷◌, ◌++◌, length, take, drop, slice_index}
use Rattle.bb_bits.specs.Truth.{Truth}
use Rattle.bb_net.specs.Netlists.{Netlist, Pins}
use Rattle.bb_net.specs.Pairs.{pin_count}
use Rattle.bb_sym.specs.Inside.Made.{Represents, RepresentAll, ref_at}
use Rattle.bb_sym.specs.Plain.{table, tables, cell_bit, plain_functions_at}
use Rattle.bb_input.specs.InputFunctions.{pins_and_inputs, boxes_first, pin_places, leads, refutes, wrong_functions, missed_functions, boxes_quantified, lost, stage}
use Rattle.bb_input.specs.declared.staging.Prefix.{Prefix}

pub record IsPrefix (spec imp : Netlist) (made : Prefix) : Type 0 where
  pub vars : made.diagrams.store.vars ≡ pins_and_inputs imp
  pub count : length made.stages.items ≡ length imp.boxes
  pub stages : (b : ℕ) → b < length imp.boxes → Represents made.diagrams.store (stage spec imp b) (ref_at made.stages.items b)
  pub last : Represents made.diagrams.store (lost spec imp) made.last
  pub pin_refs : length made.pins.items ≡ pin_count imp.boxes
  pub pins : RepresentAll made.diagrams.store (λ q. table (pins_and_inputs imp) (cell_bit (boxes_first imp) imp (slice_index (pin_places imp.boxes) q))) made.pins.items

-- a table with the boxes after the first ones quantified
abbrev pub boxes_after : ℕ → List Pins → Truth → Truth
boxes_after done boxes t = boxes_quantified (pin_count (take done boxes)) (drop done boxes) t

-- the variables and the cells of both nets
abbrev pub cell_functions : Netlist → Netlist → List Truth
cell_functions spec imp = plain_functions_at (pins_and_inputs imp) (boxes_first imp) spec imp

-- what is made of them before any variable is quantified
abbrev pub refuting_functions : Netlist → Netlist → List Truth
refuting_functions spec imp = wrong_functions spec imp ++ (missed_functions imp ++ tables (pins_and_inputs imp) (leads imp ∷ refutes spec imp ∷ []))
