-- The answer of the check by choices: boxes are filled one after another, each by outputs for its inputs, so that every
-- output is right at every vector that leads to those inputs. With one box such choices are a table. A list of output
-- bits is ordered as the number that it spells, the first output pin the most significant.
use Rattle.std.specs.Prelude.{◌≡◌, ◌≤◌, ◌<◌, ℕ, Bool, List, [], ◌∷◌, length}
use Rattle.bb_bits.specs.Numbers.{number_of}
use Rattle.bb_bits.specs.Tables.{TableBits, row_of}
use Rattle.bb_net.specs.Completions.{HaveSmallTables, AreCompletion}
use Rattle.bb_net.specs.Conditions.{ChoicesSuit, SomeChoicesSuit, NoChoicesSuit}
use Rattle.bb_net.specs.Netlists.{Netlist, box_at}
use Rattle.bb_net.specs.Values.{output_pins, table_at}
use Rattle.bb_input.specs.declared.InputAnswer.{InputAnswer}
use Rattle.bb_input.specs.declared.InputAnswer.TheVariants.{Error, Clear, Repair}

-- at most one box, and its table may be written down
pub record IsFinishable (imp : Netlist) : Type 0 where
  pub one_box : length imp.boxes ≤ 1
  pub small : HaveSmallTables imp.boxes

-- for the bits ins at the input pins of the only box, outs suit every vector that leads to them, and no lesser bits do
pub record AreLeastOutputs (spec imp : Netlist) (ins outs : List Bool) : Type 0 where
  pub whole : length outs ≡ output_pins imp.boxes
  pub suit : ChoicesSuit spec imp (record { ins = ins; outs = outs } ∷ [])
  pub least : (others : List Bool) → length others ≡ output_pins imp.boxes → ChoicesSuit spec imp (record { ins = ins; outs = others } ∷ []) → number_of outs ≤ number_of others

-- tables of the boxes, of which there is at most one, each row the least
pub record AreLeastTables (spec imp : Netlist) (tables : List TableBits) : Type 0 where
  pub completion : AreCompletion spec imp tables
  pub rows : (b : ℕ) → b < length imp.boxes → (ins : List Bool) → length ins ≡ length (box_at imp.boxes b).ins → AreLeastOutputs spec imp ins (row_of (table_at tables b) (number_of ins))

-- an error where no choices suit; tables where some do and they can be written down; else nothing more
abbrev pub IsAnswer : Netlist → Netlist → InputAnswer → Type 0
IsAnswer spec imp Error = NoChoicesSuit spec imp
IsAnswer spec imp Clear = SomeChoicesSuit spec imp × (IsFinishable imp → ⊥)
IsAnswer spec imp (Repair tables) = IsFinishable imp × AreLeastTables spec imp tables.items
