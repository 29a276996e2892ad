use Rattle.bb_hier.proofs.SizeTotals.{AreTotals}
use Rattle.std.proofs.Common.{◌-◌, map}
use Rattle.std.specs.Prelude.{◌^◌}
use Rattle.bb_hier.proofs.size.totals.Given as goal

abbrev pub invariant-loop-round : goal.invariant-loop-round
invariant-loop-round l = AreTotals (2 ^ 64 - 1) (map (λ list. list.items) l.callees) l.own l._round l.totals.items
