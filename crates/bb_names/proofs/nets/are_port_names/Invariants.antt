use Rattle.std.proofs.Common.{◌≡◌, true, take}
use Rattle.std.specs.List.{list_all}
use Rattle.bb_ast.specs.Inside.Views.{module_view}
use Rattle.bb_names.specs.Declarations.{is_port}
use Rattle.bb_names.proofs.nets.are_port_names.Given as goal

abbrev pub invariant-loop-name : goal.invariant-loop-name
invariant-loop-name l = list_all (is_port (module_view l.fn.of)) (take l.name-index l.names) ≡ true
