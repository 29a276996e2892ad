-- A report that leaves the question open: for each requested check, in their order, a line that says that it found
-- neither an error nor tables, and the line of the verdict.
use Rattle.std.specs.Prelude.{◌≡◌, ℕ, List, ◌++◌, Contains, codes}
use Rattle.std.specs.List.{AllZip, flat_map}
use Rattle.bb_options.specs.declared.rung.Rung.{Rung}
use Rattle.bb_options.specs.Rungs.{requested_rungs}
use Rattle.bb_verdict.specs.declared.requested.TextComparison.{TextComparison}
use Rattle.bb_verdict.specs.ShownMistakes.{check_line, no_verdict}

-- the line of a check with a result that is no verdict
abbrev pub IsOpenLine : Rung → List ℕ → Type 0
IsOpenLine rung line = (result : List ℕ) × Contains no_verdict result × (line ≡ check_line rung result)

pub record IsOpenReport (requested : TextComparison) (spec imp text : List ℕ) : Type 0 where
  pub lines : List (List ℕ)
  pub each : AllZip IsOpenLine (requested_rungs requested.options) lines
  pub whole : text ≡ flat_map (λ line. line) lines ++ codes "verdict open\n"
