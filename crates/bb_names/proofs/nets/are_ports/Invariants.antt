use Rattle.std.proofs.Common.{◌≡◌, ◌&&◌, true, take, map}
use Rattle.std.specs.Prelude.{is_none}
use Rattle.std.specs.List.{list_all}
use Rattle.bb_ast.specs.Inside.Views.{module_view, named_view}
use Rattle.bb_names.specs.Declarations.{is_port}
use Rattle.bb_names.proofs.nets.are_ports.Given as goal

abbrev pub invariant-loop-name : goal.invariant-loop-name
invariant-loop-name l = list_all (λ x. is_none x.1 && is_port (module_view l.fn.of) x.0) (map named_view (take l.name-index l.all)) ≡ true
