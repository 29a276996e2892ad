use Rattle.std.proofs.Common.{◌≡◌, ◌-◌, Some, map, inr, subst, arith}
use Rattle.std.specs.Prelude.{slice_get}
use Rattle.bb_names.specs.Inside.Checked.{syntax}
use Rattle.bb_net.specs.Inside.NetFaults.{IsFaultOf}
use Rattle.bb_design.specs.Hierarchy.{Design}
use Rattle.bb_design.specs.NetBits.{Bit, net_order}
use Rattle.bb_blast.specs.Inside.Placements.{ArePlaced, AreTemplated}
use Rattle.bb_design.specs.Texts.{bit_text}
use Rattle.bb_elab.proofs.LevelizedLists.{is_loose, acyclic, after, loop_there, for_name, on_loop}
use Rattle.bb_elab.proofs.levelizing.put_in_order.Goals as goal

pub order-requires : goal.order-requires
order-requires c = is_loose (map syntax c.args.checked.now) c.args.elaborated.now c.args.list.now c.lists_are_loose.ensures c.requires.design

pub overflow_sub-place : goal.overflow_sub-place
overflow_sub-place c = let far = after (map syntax c.args.checked.now) c.args.elaborated.now c.args.list.now c.least_walks_are_first_loops.ensures c.in-Err-Loop.place (subst (IsFaultOf c.args.list.now) c.in-Err-Loop.field-0-is c.in-Err-Loop.ensures.err) c.requires.design in omega (arith, far)

pub overflow_sub-place-in-Err-Loop : goal.overflow_sub-place-in-Err-Loop
overflow_sub-place-in-Err-Loop c = let far = after (map syntax c.args.checked.now) c.args.elaborated.now c.args.list.now c.least_walks_are_first_loops.ensures c.in-Err-Loop.place (subst (IsFaultOf c.args.list.now) c.in-Err-Loop.field-0-is c.in-Err-Loop.ensures.err) c.requires.design in omega (arith, far, c.input_count.ensures.count)

pub returns-in-Ok-clause-acyclic : goal.returns-in-Ok-clause-acyclic
returns-in-Ok-clause-acyclic c = acyclic (map syntax c.args.checked.now) c.args.elaborated.now c.args.list.now c.lists_without_walks.ensures
    (c.order_has_no_walk.ensures c.args.list.now c.in-Ok.ordered.net c.in-Ok.ordered.boxes.items (is_loose (map syntax c.args.checked.now) c.args.elaborated.now c.args.list.now c.lists_are_loose.ensures c.requires.design) c.inputs-inputs.ensures.kept c.in-Ok.ensures.ok)

pub bit_name-requires : goal.bit_name-requires
bit_name-requires c =
    let there = loop_there (map syntax c.args.checked.now) c.args.elaborated.now c.args.list.now c.least_walks_are_first_loops.ensures c.in-Err-Loop.place (subst (IsFaultOf c.args.list.now) c.in-Err-Loop.field-0-is c.in-Err-Loop.ensures.err) c.input_count.result c.input_count.ensures.count c.requires.design in
    record { design = for_name (map syntax c.args.checked.now) c.args.elaborated.now c.deref.result.now c.deref-in-Err-Loop.result.now c.deref.ensures.value c.deref-in-Err-Loop.ensures.value c.requires.design.0 c.requires.design.1 (c.in-Err-Loop.place - 2 - c.input_count.result) there }

pub returns-in_ok-bit_name-in-Err-Loop-clause-fault : goal.returns-in_ok-bit_name-in-Err-Loop-clause-fault
returns-in_ok-bit_name-in-Err-Loop-clause-fault c =
    let named = subst (λ o. (d : Design) → d.text ≡ map syntax c.args.checked.now → ArePlaced d c.args.elaborated.now.placed.items → AreTemplated d c.args.elaborated.now.placed.items o → (b : Bit) → slice_get (net_order d) (c.in-Err-Loop.place - 2 - c.input_count.result) ≡ Some b → c.in_ok-bit_name-in-Err-Loop.field-0 ≡ bit_text d b) c.deref-in-Err-Loop.ensures.value
    (subst (λ p. (d : Design) → d.text ≡ map syntax c.args.checked.now → ArePlaced d p → AreTemplated d p c.deref-in-Err-Loop.result.now → (b : Bit) → slice_get (net_order d) (c.in-Err-Loop.place - 2 - c.input_count.result) ≡ Some b → c.in_ok-bit_name-in-Err-Loop.field-0 ≡ bit_text d b) c.deref.ensures.value c.in_ok-bit_name-in-Err-Loop.ensures.name) in
    inr (on_loop (map syntax c.args.checked.now) c.args.elaborated.now c.args.list.now c.least_walks_are_first_loops.ensures c.in-Err-Loop.place (subst (IsFaultOf c.args.list.now) c.in-Err-Loop.field-0-is c.in-Err-Loop.ensures.err) c.in_ok-bit_name-in-Err-Loop.field-0 c.input_count.result c.input_count.ensures.count named)
