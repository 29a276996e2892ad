use Rattle.std.proofs.Common.{◌≡◌, take, map}
use Rattle.bb_ast.specs.Inside.Views.{named_view}
use Rattle.bb_names.specs.Inside.NetLists.{all_placed}
use Rattle.bb_names.proofs.nets.add_wires.Given as goal

abbrev pub invariant-loop-name : goal.invariant-loop-name
invariant-loop-name l = l.index.entries ≡ all_placed l.initial.index.entries (map (λ x. x.0) (map named_view (take l.name-index l.all)))
