use Rattle.std.proofs.Common.{◌+◌, ◌++◌, length, sym, ap, ◌∙◌, arith}
use Rattle.std.specs.Prelude.{slice_index}
use Rattle.std.proofs.lemmas.Result.{on_ok_weaker}
use Rattle.bb_cnf.specs.Clauses.{lists_of}
use Rattle.bb_net.specs.Kinds.{representatives}
use Rattle.bb_net.specs.Netlists.{Pins}
use Rattle.bb_expand.proofs.BoxesThere.{box_there}
use Rattle.bb_expand.proofs.RowLemmas.{box_read, pin_small, pin_clauses}
use Rattle.bb_expand.proofs.SharedBoxes.{kind_shown}
use Rattle.bb_expand.proofs.cells.push_cell.Goals as goal

pub bounds-boxes-b : goal.bounds-boxes-b
bounds-boxes-b c = box_there c.args.boxes.now c.in-BoxOut.b c.in-BoxOut.p (c.requires.listed c.in-BoxOut.b c.in-BoxOut.p c.in-BoxOut.is)

pub bounds-kinds-b : goal.bounds-kinds-b
bounds-kinds-b c = let h = box_there c.args.boxes.now c.in-BoxOut.b c.in-BoxOut.p (c.requires.listed c.in-BoxOut.b c.in-BoxOut.p c.in-BoxOut.is) in omega (arith, h, c.requires.kinds.count)

pub bounds-starts-kinds : goal.bounds-starts-kinds
bounds-starts-kinds c =
    let h = box_there c.args.boxes.now c.in-BoxOut.b c.in-BoxOut.p (c.requires.listed c.in-BoxOut.b c.in-BoxOut.p c.in-BoxOut.is) in
    omega (arith, kind_shown c.laws_below.ensures.sharing c.args.kinds.now c.args.boxes.now c.requires.kinds c.in-BoxOut.b h, c.requires.starts.count)

pub push_pin-requires-clause-small : goal.push_pin-requires-clause-small
push_pin-requires-clause-small c =
    let there = box_there c.args.boxes.now c.in-BoxOut.b c.in-BoxOut.p (c.requires.listed c.in-BoxOut.b c.in-BoxOut.p c.in-BoxOut.is) in
    let sharing = c.laws_below.ensures.sharing in
    let kind = kind_shown sharing c.args.kinds.now c.args.boxes.now c.requires.kinds c.in-BoxOut.b there in
    let read = box_read c.args.boxes.now c.in-BoxOut.b c.index-boxes-b.result there c.index-boxes-b.is in
    pin_small (representatives c.args.kinds.now c.args.boxes.now) (slice_index c.args.kinds.now c.in-BoxOut.b) _ _ c.index-boxes-b.result kind
    (sharing.inputs c.args.kinds.now c.args.boxes.now c.in-BoxOut.b c.requires.kinds there ∙ ap (λ (pins : Pins). length pins.ins) (sym read))
    (sharing.outputs c.args.kinds.now c.args.boxes.now c.in-BoxOut.b c.requires.kinds there ∙ ap (λ (pins : Pins). length pins.outs) (sym read))
    (c.requires.starts.each (slice_index c.args.kinds.now c.in-BoxOut.b) kind) c.requires.small

pub push_pin-requires-clause-pin : goal.push_pin-requires-clause-pin
push_pin-requires-clause-pin c =
    let has = c.requires.listed c.in-BoxOut.b c.in-BoxOut.p c.in-BoxOut.is in
    let there = box_there c.args.boxes.now c.in-BoxOut.b c.in-BoxOut.p has in
    rw (box_read c.args.boxes.now c.in-BoxOut.b c.index-boxes-b.result there c.index-boxes-b.is) has

pub push_pin-requires-clause-there : goal.push_pin-requires-clause-there
push_pin-requires-clause-there c =
    let there = box_there c.args.boxes.now c.in-BoxOut.b c.in-BoxOut.p (c.requires.listed c.in-BoxOut.b c.in-BoxOut.p c.in-BoxOut.is) in
    let reads = rw c.in-BoxOut.is at c.requires.reads in
    rw (box_read c.args.boxes.now c.in-BoxOut.b c.index-boxes-b.result there c.index-boxes-b.is) (λ k d h. omega (arith, reads k d h, c.requires.fits))

pub returns-in-BoxOut : goal.returns-in-BoxOut
returns-in-BoxOut c =
    let there = box_there c.args.boxes.now c.in-BoxOut.b c.in-BoxOut.p (c.requires.listed c.in-BoxOut.b c.in-BoxOut.p c.in-BoxOut.is) in
    let sharing = c.laws_below.ensures.sharing in
    let kind = kind_shown sharing c.args.kinds.now c.args.boxes.now c.requires.kinds c.in-BoxOut.b there in
    on_ok_weaker c.push_pin.result (λ e. e ∙ ap (λ t. lists_of c.args.clauses.now.items ++ t) (pin_clauses c.args.kinds.now c.args.boxes.now c.args.x.now (λ k. c.args.base + k + 1) (c.args.base + c.args.place + 1) c.args.cell c.in-BoxOut.b c.in-BoxOut.p _ c.index-boxes-b.result
    c.in-BoxOut.is (box_read c.args.boxes.now c.in-BoxOut.b c.index-boxes-b.result there c.index-boxes-b.is) (c.requires.starts.each (slice_index c.args.kinds.now c.in-BoxOut.b) kind)
    (sharing.outputs c.args.kinds.now c.args.boxes.now c.in-BoxOut.b c.requires.kinds there))) c.push_pin.ensures
