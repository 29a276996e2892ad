-- What is known of the cells of the specification between the checks.
use Rattle.std.specs.Prelude.{◌≡◌, Bool, true, false}
use Rattle.bb_net.specs.Pairs.{NetPair}
use Rattle.bb_options.specs.declared.options.Options.{Options}
use Rattle.bb_options.specs.declared.rung.Rung.{Rung}
use Rattle.bb_options.specs.declared.rung.Rung.TheVariants.{Ternary, Symbolic, Local, Output, Input, Expand}
use Rattle.bb_checks.specs.declared.line.CheckResult.TheVariants.{Nodes}
use Rattle.bb_checks.specs.declared.specification.Specification.{Specification}
use Rattle.bb_checks.specs.declared.specification.Specification.TheVariants.{Unknown, Suspected, Fits, Exceeds}
use Rattle.bb_checks.specs.Rungs.{MayReport}

abbrev pub is_by_diagrams : Rung → Bool
is_by_diagrams Ternary = false
is_by_diagrams Symbolic = true
is_by_diagrams Local = true
is_by_diagrams Output = true
is_by_diagrams Input = true
is_by_diagrams Expand = false

-- where they need more nodes than the bound, each check by BDDs reports so
abbrev pub IsKnown : NetPair → Options → Specification → Type 0
IsKnown p o Unknown = Unit {0}
IsKnown p o Suspected = Unit {0}
IsKnown p o Fits = Unit {0}
IsKnown p o Exceeds = (r : Rung) → is_by_diagrams r ≡ true → MayReport p o r Nodes
