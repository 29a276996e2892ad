use Rattle.std.proofs.Common.{◌-◌, ◌+◌, ◌∙◌, ℕ, List, ap, map}
use Rattle.std.specs.Prelude.{◌^◌, sum_by, slice_index_or}
use Rattle.bb_expr.specs.Inside.Shares.{capped}
use Rattle.bb_hier.proofs.SizeTotals.{more_totals}
use Rattle.bb_hier.proofs.size.totals.Goals as goal

pub loop-round-preserved : goal.loop-round-preserved
loop-round-preserved c =
    more_totals (2 ^ 64 - 1) (map (λ list. list.items) c.args.callees.now) c.args.own.now c.loop-round.totals.items c.in_ok-totals-2.totals.items c.loop-round._round c.loop-round.invariant
    (c.in_ok-totals-2.ensures.next ∙ ap (λ totals. map (λ (called : List ℕ). capped (sum_by (λ (k : ℕ). slice_index_or c.args.own.now k 0 + slice_index_or totals k 0) called)) (map (λ list. list.items) c.args.callees.now)) c.deref.ensures.value)
