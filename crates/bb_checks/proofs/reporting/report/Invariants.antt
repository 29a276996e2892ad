use Rattle.std.proofs.Common.{◌≡◌, take}
use Rattle.std.specs.List.{flat_map}
use Rattle.bb_checks.specs.Reports.{check_line_text}
use Rattle.bb_checks.proofs.reporting.report.Given as goal

abbrev pub invariant-loop-line : goal.invariant-loop-line
invariant-loop-line l = l.text.items ≡ flat_map (check_line_text l.pair l.options) (take l.line-index l.lines)
