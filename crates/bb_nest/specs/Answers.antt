-- The answer of the check by choices where boxes may be nested: an error where no choices suit; tables where some do,
-- the boxes are nested and the tables can be written down; else nothing more. With at most one box it is the answer of
-- bb_input.
use Rattle.std.specs.Prelude.{ℕ, List}
use Rattle.bb_net.specs.Completions.{HaveSmallTables}
use Rattle.bb_net.specs.Conditions.{SomeChoicesSuit, NoChoicesSuit}
use Rattle.bb_net.specs.Netlists.{Netlist}
use Rattle.bb_input.specs.declared.InputAnswer.{InputAnswer}
use Rattle.bb_input.specs.declared.InputAnswer.TheVariants.{Error, Clear, Repair}
use Rattle.bb_nest.specs.Nested.{AreNested}
use Rattle.bb_nest.specs.Rows.{AreNestedTables}

-- the boxes are nested, and their tables may be written down
pub record AreFinishable (imp : Netlist) (kinds : List ℕ) : Type 0 where
  pub nested : AreNested imp kinds
  pub small : HaveSmallTables imp.boxes

abbrev pub IsInputAnswer : Netlist → Netlist → List ℕ → InputAnswer → Type 0
IsInputAnswer spec imp kinds Error = NoChoicesSuit spec imp
IsInputAnswer spec imp kinds Clear = SomeChoicesSuit spec imp × (AreFinishable imp kinds → ⊥)
IsInputAnswer spec imp kinds (Repair tables) = AreFinishable imp kinds × AreNestedTables spec imp tables.items
