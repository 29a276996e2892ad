use Rattle.std.proofs.Common.{◌≡◌, List, take, map}
use Rattle.std.specs.Prelude.{option_map}
use Rattle.bb_ast.specs.Syntax.{PlainModule, Named}
use Rattle.bb_ast.specs.Inside.Views.{module_view, named_view}
use Rattle.bb_names.specs.Inside.Firsts.{noted, AreSame}
use Rattle.bb_names.specs.Sites.{conns_sites}
use Rattle.bb_names.proofs.faults.instances.look_at_connections.Given as goal

abbrev pub invariant-loop-name : goal.invariant-loop-name
invariant-loop-name l = record {
  noted : (text : List PlainModule) → l.found ≡ noted text (module_view l.fn.of) l.initial.found (conns_sites (option_map (λ t. module_view t.now) l.fn.target) (Named (map named_view (take l.name-index l.all))));
  names : AreSame l.earlier.keys (map (λ y. y.0) (map named_view (take l.name-index l.all)));
}
