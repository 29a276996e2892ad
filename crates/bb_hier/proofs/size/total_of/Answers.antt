use Rattle.std.proofs.Common.{◌-◌, ◌+◌, ℕ}
use Rattle.std.specs.Prelude.{◌^◌, slice_index_or}
use Rattle.std.proofs.lemmas.List.{get_or_default}
use Rattle.bb_hier.proofs.CellSums.{share_step, share_end, turned}
use Rattle.bb_hier.proofs.size.total_of.Goals as goal

pub loop-k-preserved : goal.loop-k-preserved
loop-k-preserved c =
    let g = λ (k : ℕ). slice_index_or c.args.own.now k 0 + slice_index_or c.args.totals.now k 0 in
    let k = slice_index_or c.args.called.now c.loop-k.k-index 0 in
    share_step g c.args.called.now c.loop-k.k-index (2 ^ 64 - 1) k c.loop-k.total c.saturating_add.result c.saturating_add-total.result c.loop-k-test.true (get_or_default c.args.called.now c.loop-k.k-index 0 k c.loop-k-test.true)
    c.loop-k.invariant (turned (2 ^ 64 - 1) (g k) c.saturating_add.result c.saturating_add.ensures) c.saturating_add-total.ensures

pub returns : goal.returns
returns c = record { total = share_end (λ (k : ℕ). slice_index_or c.args.own.now k 0 + slice_index_or c.args.totals.now k 0) c.args.called.now c.loop-k.k-index (2 ^ 64 - 1) c.loop-k.total c.loop-k-test.false c.loop-k.invariant }
