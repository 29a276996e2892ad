use Rattle.std.proofs.Common.{[], ◌<◌, length, sym, ap, ◌∙◌, subst, arith}
use Rattle.bb_net.specs.Netlists.{ReadsBefore}
use Rattle.bb_strash.specs.Inside.Extensions.{bit, gate_bit}
use Rattle.bb_strash.proofs.GateBits.{begins, input_bit}
use Rattle.bb_strash.proofs.hashed.add_cell.Goals as goal

pub overflow_add-result : goal.overflow_add-result
overflow_add-result c =
    let net = c.args.net.now in
    let there : c.in-Input.i < net.inputs = subst (ReadsBefore net.inputs [] (length net.cells)) c.in-Input.is c.requires.reads in
    omega (arith, there, begins net c.keeps_its_order.ensures, c.requires.room)

pub returns-in-Input-clause-gives : goal.returns-in-Input-clause-gives
returns-in-Input-clause-gives c =
    let net = c.args.net.now in
    let there : c.in-Input.i < net.inputs = subst (ReadsBefore net.inputs [] (length net.cells)) c.in-Input.is c.requires.reads in
    record {
      there = omega (arith, there, begins net c.keeps_its_order.ensures);
      same = λ x. input_bit c.bits.ensures.gates net c.keeps_its_order.ensures c.requires.none x c.in-Input.i there ∙ ap (gate_bit x (bit net x)) (sym c.in-Input.is);
    }
