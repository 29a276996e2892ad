use Rattle.std.proofs.Common.{◌-◌, ◌∙◌, ap, Bool, List, Vec, Global, filter, length}
use Rattle.std.specs.Prelude.{◌^◌}
use Rattle.bb_hier.proofs.CellSums.{share_more, share_all}
use Rattle.bb_hier.proofs.MarkLemmas.{below_cap}
use Rattle.bb_hier.proofs.register_bits.count_all.Goals as goal

pub loop-row-preserved : goal.loop-row-preserved
loop-row-preserved c = share_more (λ (row : List Bool). length (filter (λ mark. mark) row)) (λ (row : Vec Bool Global). row.items) c.args.marks.now c.loop-row.row-index (2 ^ 64 - 1) c.row-item.result c.loop-row.total c.count_marked.result c.saturating_add-total.result
    c.loop-row-test.true c.row-item.is c.loop-row.invariant
    (below_cap (2 ^ 64 - 1) c.count_marked.result (length (filter (λ mark. mark) c.row-item.result.items)) (c.count_marked.ensures.count ∙ ap (λ (row : List Bool). length (filter (λ mark. mark) row)) c.deref.ensures.value) c.count_marked.type_inv)
    c.saturating_add-total.ensures

pub returns : goal.returns
returns c = record {
  count = share_all (λ (row : List Bool). length (filter (λ mark. mark) row)) (λ (row : Vec Bool Global). row.items) c.args.marks.now c.loop-row.row-index (2 ^ 64 - 1) c.loop-row.total c.loop-row-test.false c.loop-row.invariant;
}
