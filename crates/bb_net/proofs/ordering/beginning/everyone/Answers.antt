use Rattle.std.proofs.Common.{◌∙◌, map, ap}
use Rattle.std.specs.List.{range_with_len}
use Rattle.bb_net.specs.declared.ordering.placing.Waiter.TheVariants as waiter
use Rattle.bb_net.proofs.OrderedLists.{AreAll-from}
use Rattle.bb_net.proofs.ordering.beginning.everyone.Goals as goal

pub returns : goal.returns
returns c =
    let l = c.args.loose.now in
    let cells = c.in_ok-all.ensures.ok ∙ ap (λ n. map waiter.Cell (range_with_len 0 n)) c.cell_count.ensures.count in
    let boxes = c.in_ok-boxes.ensures.ok ∙ ap (λ n. map (λ b. waiter.Box b 0) (range_with_len 0 n)) c.box_count.ensures.count in
    record { ok = rw (c.in_ok-append.ensures.items, cells, boxes) (AreAll-from l) }
