use Rattle.std.proofs.Common.{◌≡◌, false, take}
use Rattle.std.specs.List.{list_any}
use Rattle.bb_checks.specs.Reports.{is_repair}
use Rattle.bb_checks.proofs.verdict.given_tables.Given as goal

abbrev pub invariant-loop-line : goal.invariant-loop-line
invariant-loop-line l = list_any is_repair (take l.line-index l.lines) ≡ false
