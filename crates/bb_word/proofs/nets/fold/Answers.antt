use Rattle.std.proofs.Common.{◌∙◌, length, ap, arith}
use Rattle.bb_net.specs.Netlists.{Netlist}
use Rattle.bb_word.proofs.FoldNets.{operand_long, operand_there, fold_net, fold_net_length, fold_net_value}
use Rattle.bb_word.proofs.NetLemmas.{length-first}
use Rattle.bb_word.proofs.nets.fold.Goals as goal

pub returns-clause-circuit : goal.returns-clause-circuit
returns-clause-circuit c =
    fold_net c.args.op c.args.width c.in_ok-net.net c.add_fold.new.net c.add_out.new.self c.deref.result.now c.in_ok-place.place c.in_ok-net.ensures.ok (c.deref.ensures.value ∙ c.in_ok-word.ensures) c.in_ok-place.ensures.made c.in_ok-add_out.ensures.ok c.keeps_its_order.ensures

pub returns-clause-value : goal.returns-clause-value
returns-clause-value c =
    fold_net_value c.value_is_unique.ensures c.args.op c.args.width c.add_out.new.self c.requires.some c.keeps_its_order.ensures
    (fold_net c.args.op c.args.width c.in_ok-net.net c.add_fold.new.net c.add_out.new.self c.deref.result.now c.in_ok-place.place c.in_ok-net.ensures.ok (c.deref.ensures.value ∙ c.in_ok-word.ensures) c.in_ok-place.ensures.made c.in_ok-add_out.ensures.ok c.keeps_its_order.ensures)

pub returns-clause-count : goal.returns-clause-count
returns-clause-count c =
    fold_net_length c.args.op c.args.width c.in_ok-net.net c.add_fold.new.net c.add_out.new.self c.deref.result.now c.in_ok-place.place c.in_ok-net.ensures.ok (c.deref.ensures.value ∙ c.in_ok-word.ensures) c.in_ok-place.ensures.grown c.in_ok-add_out.ensures.ok

pub add_fold-requires-clause-some : goal.add_fold-requires-clause-some
add_fold-requires-clause-some c = omega (arith, operand_long 2 c.args.width c.deref.result.now (c.deref.ensures.value ∙ c.in_ok-word.ensures), c.requires.some)

pub add_fold-requires-clause-room : goal.add_fold-requires-clause-room
add_fold-requires-clause-room c =
    omega (arith, operand_long 2 c.args.width c.deref.result.now (c.deref.ensures.value ∙ c.in_ok-word.ensures), ap (λ (m : Netlist). length m.cells) c.in_ok-net.ensures.ok, length-first c.args.width, c.requires.few)

pub add_fold-requires-clause-there : goal.add_fold-requires-clause-there
add_fold-requires-clause-there c =
    operand_there 2 c.args.width _ c.deref.result.now (c.deref.ensures.value ∙ c.in_ok-word.ensures) (omega (arith, ap (λ (m : Netlist). length m.cells) c.in_ok-net.ensures.ok, length-first c.args.width))

pub add_out-requires : goal.add_out-requires
add_out-requires c = record { there = c.in_ok-place.ensures.made.there 0 0 (omega arith) }
