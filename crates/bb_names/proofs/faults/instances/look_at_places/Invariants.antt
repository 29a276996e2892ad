use Rattle.std.proofs.Common.{◌≡◌, List, take, map}
use Rattle.std.specs.List.{flat_map, enumerate_from}
use Rattle.std.specs.Prelude.{option_map}
use Rattle.std.specs.Option.{option_and_then}
use Rattle.bb_ast.specs.Syntax.{PlainModule}
use Rattle.bb_ast.specs.Inside.Views.{module_view, optional_view}
use Rattle.bb_names.specs.Inside.Firsts.{noted}
use Rattle.bb_names.specs.Sites.{joined_sites, pin_at}
use Rattle.bb_names.proofs.faults.instances.look_at_places.Given as goal

abbrev pub invariant-loop-k : goal.invariant-loop-k
invariant-loop-k l = (text : List PlainModule) → l.found ≡ noted text (module_view l.fn.of) l.initial.found (flat_map (λ x. joined_sites (option_and_then (λ m. pin_at m x.0) (option_map (λ t. module_view t.now) l.fn.target)) x.1) (enumerate_from 0 (map optional_view (take l.k l.places))))
