use Rattle.std.proofs.Common.{ap, ◌∙◌, map}
use Rattle.bb_ast.specs.Inside.Views.{expression, gate_view, module_view}
use Rattle.bb_names.specs.Inside.Firsts.{noted}
use Rattle.bb_names.specs.Sites.{gate_sites}
use Rattle.bb_names.proofs.Noting.{noted-turn, noted-all}
use Rattle.bb_names.proofs.faults.gates.look_at_gates.Goals as goal

pub loop-call-preserved : goal.loop-call-preserved
loop-call-preserved c = λ text.
    let m = module_view c.args.of.now in
    noted-turn text m (λ x. gate_sites c.args.gate x.1) gate_view c.args.calls.now c.loop-call.call-index c.call-item.result c.args.found.now c.loop-call.found c.look_at_gate.new.found c.loop-call-test.true c.call-item.is (c.loop-call.invariant text)
    (c.in_ok-look_at_gate.ensures.noted text ∙ ap (λ ts. noted text m c.loop-call.found (gate_sites c.args.gate (map expression ts))) c.as_slice.ensures)

pub returns : goal.returns
returns c = record { noted = λ text. noted-all text (module_view c.args.of.now) (λ x. gate_sites c.args.gate x.1) gate_view c.args.calls.now c.loop-call.call-index c.args.found.now c.loop-call.found c.loop-call-test.false (c.loop-call.invariant text) }
