use Rattle.std.proofs.Common.{ap, map, ◌∙◌}
use Rattle.std.specs.List.{flat_map}
use Rattle.bb_ast.specs.Names.{names_in}
use Rattle.bb_ast.specs.Inside.Views.{expression, gate_view}
use Rattle.bb_names.specs.Inside.Implicit.{grown}
use Rattle.bb_names.proofs.OnceLemmas.{grown-turn, grown-all}
use Rattle.bb_names.proofs.implicit.add_gates.Goals as goal

pub loop-gate-preserved : goal.loop-gate-preserved
loop-gate-preserved c =
    grown-turn c.args.declared.now.entries (λ x. flat_map names_in x.1) gate_view c.args.gates.now c.loop-gate.gate-index c.gate-item.result c.args.set.now.keys c.loop-gate.set.keys c.add_parts.new.set.keys c.loop-gate-test.true c.gate-item.is
    c.loop-gate.invariant (c.in_ok-add_parts.ensures ∙ ap (λ ts. grown c.args.declared.now.entries c.loop-gate.set.keys (flat_map names_in (map expression ts))) c.as_slice.ensures)

pub returns : goal.returns
returns c = grown-all c.args.declared.now.entries (λ x. flat_map names_in x.1) gate_view c.args.gates.now c.loop-gate.gate-index c.args.set.now.keys c.loop-gate.set.keys c.loop-gate-test.false c.loop-gate.invariant
