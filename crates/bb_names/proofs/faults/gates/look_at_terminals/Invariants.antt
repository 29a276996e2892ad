use Rattle.std.proofs.Common.{◌≡◌, List, take, map}
use Rattle.std.specs.List.{flat_map}
use Rattle.bb_ast.specs.Syntax.{PlainModule}
use Rattle.bb_ast.specs.Inside.Views.{module_view, expression}
use Rattle.bb_names.specs.Inside.Firsts.{noted, terminal_sites}
use Rattle.bb_names.proofs.faults.gates.look_at_terminals.Given as goal

abbrev pub invariant-loop-terminal : goal.invariant-loop-terminal
invariant-loop-terminal l = (text : List PlainModule) → l.found ≡ noted text (module_view l.fn.of) l.initial.found (flat_map (terminal_sites l.fn.gate l.fn.output) (map expression (take l.terminal-index l.terminals)))
