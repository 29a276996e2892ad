use Rattle.std.proofs.Common.{◌≡◌, ◌++◌, map}
use Rattle.bb_ast.specs.Inside.Views.{module_view}
use Rattle.bb_names.specs.Nets.{net_of}
use Rattle.bb_names.proofs.nets.add_nets.Given as goal

abbrev pub invariant-loop-name : goal.invariant-loop-name
invariant-loop-name l = l.all.items ++ map (net_of (module_view l.fn.of)) l.name-iterator ≡ map (net_of (module_view l.fn.of)) l.initial.name-iterator
