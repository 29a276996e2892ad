use Rattle.std.proofs.Common.{◌≡◌, List, take, map}
use Rattle.std.specs.List.{flat_map}
use Rattle.bb_ast.specs.Syntax.{PlainModule}
use Rattle.bb_ast.specs.Inside.Views.{module_view, gate_view}
use Rattle.bb_names.specs.Inside.Firsts.{noted}
use Rattle.bb_names.specs.Sites.{gate_sites}
use Rattle.bb_names.proofs.faults.gates.look_at_gates.Given as goal

abbrev pub invariant-loop-call : goal.invariant-loop-call
invariant-loop-call l = (text : List PlainModule) → l.found ≡ noted text (module_view l.fn.of) l.initial.found (flat_map (λ x. gate_sites l.fn.gate x.1) (map gate_view (take l.call-index l.calls)))
