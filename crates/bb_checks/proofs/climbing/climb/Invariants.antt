use Rattle.std.proofs.Common.{◌++◌, List}
use Rattle.std.specs.Prelude.{drop}
use Rattle.bb_checks.specs.declared.line.Line.{Line}
use Rattle.bb_checks.specs.Inside.Specification.{IsKnown}
use Rattle.bb_checks.specs.Rungs.{Climbs}
use Rattle.bb_checks.proofs.climbing.climb.Given as goal

abbrev pub invariant-loop-rung : goal.invariant-loop-rung
invariant-loop-rung l = IsKnown l.pair l.options l.known × ((more : List Line) → Climbs l.pair l.options (drop l.rung-index l.rung-items) more → Climbs l.pair l.options l.rung-items (l.lines.items ++ more))
