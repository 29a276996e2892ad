use Rattle.std.proofs.Common.{◌∙◌, ◌+◌, ◌≤◌, ℕ, length, ap, sym, subst, arith}
use Rattle.bb_net.specs.Netlists.{Netlist}
use Rattle.bb_word.specs.Inside.Adding.{HasConstants}
use Rattle.bb_word.specs.Words.{AreWidths, word_cells}
use Rattle.bb_word.proofs.FoldNets.{operand_long, operand_there}
use Rattle.bb_word.proofs.FoldSteps.{All-reversed}
use Rattle.bb_word.proofs.WordNets.{word_net, word_net_value, word_net_width, word_net_length}
use Rattle.bb_word.proofs.NetLemmas.{length-first, constants_first}
use Rattle.bb_word.proofs.nets.word.Goals as goal

pub returns-clause-circuit : goal.returns-clause-circuit
returns-clause-circuit c =
    word_net c.args.op c.args.left c.args.right c.in_ok-net.net c.add_word.new.net c.add_outs.new.net c.deref.result.now c.deref-2.result.now c.in_ok-result.result.items c.deref-3.result.now
    c.in_ok-net.ensures.ok (c.deref.ensures.value ∙ c.in_ok-first.ensures) (c.deref-2.ensures.value ∙ c.in_ok-second.ensures) c.in_ok-result.ensures.made (c.deref-3.ensures.value ∙ c.reverse.ensures.items) c.in_ok-add_outs.ensures.ok c.keeps_its_order.ensures

pub returns-clause-value : goal.returns-clause-value
returns-clause-value c =
    word_net_value c.value_is_unique.ensures c.number_doubles.ensures c.args.op c.args.left c.args.right c.add_outs.new.net c.requires.widths c.keeps_its_order.ensures
    (word_net c.args.op c.args.left c.args.right c.in_ok-net.net c.add_word.new.net c.add_outs.new.net c.deref.result.now c.deref-2.result.now c.in_ok-result.result.items c.deref-3.result.now
    c.in_ok-net.ensures.ok (c.deref.ensures.value ∙ c.in_ok-first.ensures) (c.deref-2.ensures.value ∙ c.in_ok-second.ensures) c.in_ok-result.ensures.made (c.deref-3.ensures.value ∙ c.reverse.ensures.items) c.in_ok-add_outs.ensures.ok c.keeps_its_order.ensures)

pub returns-clause-width : goal.returns-clause-width
returns-clause-width c =
    word_net_width c.value_is_unique.ensures c.number_doubles.ensures c.args.op c.args.left c.args.right c.add_outs.new.net c.requires.widths c.keeps_its_order.ensures
    (word_net c.args.op c.args.left c.args.right c.in_ok-net.net c.add_word.new.net c.add_outs.new.net c.deref.result.now c.deref-2.result.now c.in_ok-result.result.items c.deref-3.result.now
    c.in_ok-net.ensures.ok (c.deref.ensures.value ∙ c.in_ok-first.ensures) (c.deref-2.ensures.value ∙ c.in_ok-second.ensures) c.in_ok-result.ensures.made (c.deref-3.ensures.value ∙ c.reverse.ensures.items) c.in_ok-add_outs.ensures.ok c.keeps_its_order.ensures)

pub returns-clause-count : goal.returns-clause-count
returns-clause-count c =
    let first = operand_long 2 c.args.left c.deref.result.now (c.deref.ensures.value ∙ c.in_ok-first.ensures) in
    let second = operand_long (2 + c.args.left) c.args.right c.deref-2.result.now (c.deref-2.ensures.value ∙ c.in_ok-second.ensures) in
    word_net_length c.args.op c.args.left c.args.right c.in_ok-net.net c.add_word.new.net c.add_outs.new.net c.deref.result.now c.deref-2.result.now c.deref-3.result.now c.in_ok-net.ensures.ok first second c.in_ok-result.ensures.grown c.in_ok-add_outs.ensures.ok

pub add_word-requires-clause-widths : goal.add_word-requires-clause-widths
add_word-requires-clause-widths c =
    let first = operand_long 2 c.args.left c.deref.result.now (c.deref.ensures.value ∙ c.in_ok-first.ensures) in
    let second = operand_long (2 + c.args.left) c.args.right c.deref-2.result.now (c.deref-2.ensures.value ∙ c.in_ok-second.ensures) in
    subst (λ (n : ℕ). AreWidths c.args.op n (length c.deref-2.result.now)) (sym first) (subst (λ (n : ℕ). AreWidths c.args.op c.args.left n) (sym second) c.requires.widths)

pub add_word-requires-clause-few_left : goal.add_word-requires-clause-few_left
add_word-requires-clause-few_left c = omega (arith, operand_long 2 c.args.left c.deref.result.now (c.deref.ensures.value ∙ c.in_ok-first.ensures), c.requires.few_left)

pub add_word-requires-clause-few_right : goal.add_word-requires-clause-few_right
add_word-requires-clause-few_right c = omega (arith, operand_long (2 + c.args.left) c.args.right c.deref-2.result.now (c.deref-2.ensures.value ∙ c.in_ok-second.ensures), c.requires.few_right)

pub add_word-requires-clause-few_cells : goal.add_word-requires-clause-few_cells
add_word-requires-clause-few_cells c =
    let first = operand_long 2 c.args.left c.deref.result.now (c.deref.ensures.value ∙ c.in_ok-first.ensures) in
    let second = operand_long (2 + c.args.left) c.args.right c.deref-2.result.now (c.deref-2.ensures.value ∙ c.in_ok-second.ensures) in
    subst (λ (n : ℕ). word_cells c.args.op n (length c.deref-2.result.now) ≤ 2000000) (sym first) (subst (λ (n : ℕ). word_cells c.args.op c.args.left n ≤ 2000000) (sym second) c.requires.few_cells)

pub add_word-requires-clause-room : goal.add_word-requires-clause-room
add_word-requires-clause-room c =
    omega (arith, ap (λ (m : Netlist). length m.cells) c.in_ok-net.ensures.ok, length-first (c.args.left + c.args.right), c.requires.few_left, c.requires.few_right)

pub add_word-requires-clause-constants : goal.add_word-requires-clause-constants
add_word-requires-clause-constants c = subst (λ (m : Netlist). HasConstants m.cells) (sym c.in_ok-net.ensures.ok) (constants_first (c.args.left + c.args.right))

pub add_word-requires-clause-left : goal.add_word-requires-clause-left
add_word-requires-clause-left c =
    operand_there 2 c.args.left _ c.deref.result.now (c.deref.ensures.value ∙ c.in_ok-first.ensures) (omega (arith, ap (λ (m : Netlist). length m.cells) c.in_ok-net.ensures.ok, length-first (c.args.left + c.args.right)))

pub add_word-requires-clause-right : goal.add_word-requires-clause-right
add_word-requires-clause-right c =
    operand_there (2 + c.args.left) c.args.right _ c.deref-2.result.now (c.deref-2.ensures.value ∙ c.in_ok-second.ensures) (omega (arith, ap (λ (m : Netlist). length m.cells) c.in_ok-net.ensures.ok, length-first (c.args.left + c.args.right)))

pub add_outs-requires : goal.add_outs-requires
add_outs-requires c = record { there = All-reversed _ c.in_ok-result.result.items c.deref-3.result.now (c.deref-3.ensures.value ∙ c.reverse.ensures.items) c.in_ok-result.ensures.made.there }
