use Rattle.std.proofs.Common.{◌+◌, ◌∙◌, ap, take, drop, map, ◌++◌, length, arith}
use Rattle.std.proofs.lemmas.List.{with_items_is}
use Rattle.std.specs.Prelude.{slice_index}
use Rattle.bb_net.specs.Orders.{moved_pins}
use Rattle.bb_net.specs.Rearrangements.{new_place, moved_cell}
use Rattle.bb_net.proofs.Rearranged.{fit_so, prefix_fits_so, netlist_so, rearranged_so}
use Rattle.bb_net.specs.contracts.net.Net.{the_view}
use Rattle.bb_net.proofs.net.Net.rearranged.Goals as goal

pub picked-requires-clause-numbers : goal.picked-requires-clause-numbers
picked-requires-clause-numbers c = fit_so (the_view c.self.inside) c.args.self c.self.invariant c.self.view_is c.args.numbers.now c.args.picks.now c.requires.count c.requires.numbers c.requires.picks

pub move_cells_after-requires-clause-there : goal.move_cells_after-requires-clause-there
move_cells_after-requires-clause-there c =
    let fits = prefix_fits_so (the_view c.self.inside) c.args.self c.self.invariant c.self.view_is c.args.numbers.now c.args.picks.now c.requires.count c.requires.numbers c.requires.picks in
    let len = ap length c.deref_mut.ensures.value in
    omega (arith, fits, len)

pub move_cells_after-requires-clause-numbers : goal.move_cells_after-requires-clause-numbers
move_cells_after-requires-clause-numbers c = fit_so (the_view c.self.inside) c.args.self c.self.invariant c.self.view_is c.args.numbers.now c.args.picks.now c.requires.count c.requires.numbers c.requires.picks

pub move_boxes-requires : goal.move_boxes-requires
move_boxes-requires c = fit_so (the_view c.self.inside) c.args.self c.self.invariant c.self.view_is c.args.numbers.now c.args.picks.now c.requires.count c.requires.numbers c.requires.picks

pub invariant_of-result : goal.invariant_of-result
invariant_of-result c =
    let cells_len = c.self.inside.cells.ok.0 in
    let boxes_len = c.self.inside.boxes.ok.0 in
    let cells_are = with_items_is c.self.inside.cells c.move_cells_after.new.cells (omega (arith, c.move_cells_after.auto.cells, ap length c.deref_mut.ensures.value, cells_len))
    ∙ c.move_cells_after.ensures ∙ ap (λ l. take (c.self.inside.inputs + 2) l ++ map (moved_cell c.args.numbers.now) (drop (c.self.inside.inputs + 2) l)) c.deref_mut.ensures.value in
    let boxes_are = with_items_is c.self.inside.boxes c.move_boxes.new.boxes (omega (arith, c.move_boxes.auto.boxes, ap length c.deref_mut-2.ensures.value, boxes_len))
    ∙ c.move_boxes.ensures ∙ ap (map (moved_pins (new_place c.args.numbers.now))) c.deref_mut-2.ensures.value in
    let outs_are = c.in_ok-outs.ensures.ok ∙ ap (λ l. map (λ j. new_place c.args.numbers.now (slice_index l j)) c.args.picks.now) c.deref.ensures.value in
    netlist_so (the_view c.self.inside) c.args.self c.self.invariant c.self.view_is c.args.numbers.now c.args.picks.now c.requires.count c.requires.numbers c.requires.picks _ _ _ cells_are boxes_are outs_are

pub returns : goal.returns
returns c =
    let cells_len = c.self.inside.cells.ok.0 in
    let boxes_len = c.self.inside.boxes.ok.0 in
    let cells_are = with_items_is c.self.inside.cells c.move_cells_after.new.cells (omega (arith, c.move_cells_after.auto.cells, ap length c.deref_mut.ensures.value, cells_len))
    ∙ c.move_cells_after.ensures ∙ ap (λ l. take (c.self.inside.inputs + 2) l ++ map (moved_cell c.args.numbers.now) (drop (c.self.inside.inputs + 2) l)) c.deref_mut.ensures.value in
    let boxes_are = with_items_is c.self.inside.boxes c.move_boxes.new.boxes (omega (arith, c.move_boxes.auto.boxes, ap length c.deref_mut-2.ensures.value, boxes_len))
    ∙ c.move_boxes.ensures ∙ ap (map (moved_pins (new_place c.args.numbers.now))) c.deref_mut-2.ensures.value in
    let outs_are = c.in_ok-outs.ensures.ok ∙ ap (λ l. map (λ j. new_place c.args.numbers.now (slice_index l j)) c.args.picks.now) c.deref.ensures.value in
    record { ok = rearranged_so (the_view c.self.inside) c.args.self c.self.invariant c.self.view_is c.args.numbers.now c.args.picks.now c.requires.count c.requires.numbers c.requires.picks _ _ _ cells_are boxes_are outs_are }
