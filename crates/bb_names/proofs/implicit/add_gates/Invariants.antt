use Rattle.std.proofs.Common.{◌≡◌, take, map}
use Rattle.std.specs.List.{flat_map}
use Rattle.bb_ast.specs.Names.{names_in}
use Rattle.bb_ast.specs.Inside.Views.{gate_view}
use Rattle.bb_names.specs.Inside.Implicit.{grown}
use Rattle.bb_names.proofs.implicit.add_gates.Given as goal

abbrev pub invariant-loop-gate : goal.invariant-loop-gate
invariant-loop-gate l = l.set.keys ≡ grown l.declared.entries l.initial.set.keys (flat_map (λ x. flat_map names_in x.1) (map gate_view (take l.gate-index l.gates)))
