-- Moves of a word.
use Rattle.std.specs.Prelude.{ℕ, List}
use Rattle.bb_word.specs.declared.shifts.Direction.{Direction}
use Rattle.bb_word.specs.declared.shifts.Direction.TheVariants as ways
use Rattle.bb_word.specs.Gates.{Made}
use Rattle.bb_word.specs.Circuits.{up, down, choices}
use Rattle.bb_word.specs.Laws.Formulas.{Formula, formulas}

abbrev pub move : {A : Type 0} → Direction → A → ℕ → List A → List A
move ways.Up o = up o
move ways.Down o = down o

-- choices between bits, each of them a cell
abbrev pub both_choices : Formula → List Formula → List Formula → Made Formula
both_choices c xs ys = record { bits = choices formulas c xs ys; cells = choices formulas c xs ys }
