use Rattle.std.proofs.Common.{◌+◌, length, ap, arith, length-append, length-drop, false, true}
use Rattle.bb_expr.specs.Inside.Instantiation.{after_inputs, constant_steps}
use Rattle.bb_expr.proofs.InstantiatedPlaces.{outs-within, constant-few}
use Rattle.bb_expr.proofs.circuits.instantiate.Goals as goal

pub moved_outs-requires-clause-there : goal.moved_outs-requires-clause-there
moved_outs-requires-clause-there c =
    let net = c.args.net.now in (
      length (after_inputs net),
      omega (
        arith,
        c.len-first.ensures,
        ap length c.in_ok-one.ensures.steps,
        ap length c.in_ok-zero.ensures.steps,
        length-append c.args.steps.now.items (constant_steps false c.needs.result),
        length-append c.constant.new.steps.items (constant_steps true c.needs-2.result),
        constant-few false c.needs.result,
        constant-few true c.needs-2.result,
        length-drop (net.inputs + 2) net.cells,
        c.requires.inputs,
        c.requires.room,
      ),
      outs-within net c.outs-3.ensures.kept (length c.args.inputs.now) c.requires.inputs c.outs-3.result.now c.outs-3.ensures.outs,
    )
