use Rattle.std.proofs.Common.{◌≡◌, take, map}
use Rattle.bb_ast.specs.Inside.Views.{head_view}
use Rattle.bb_names.specs.Inside.NetLists.{all_placed}
use Rattle.bb_names.proofs.nets.add_heads.Given as goal

abbrev pub invariant-loop-head : goal.invariant-loop-head
invariant-loop-head l = l.index.entries ≡ all_placed l.initial.index.entries (map (λ head. head.name) (map head_view (take l.head-index l.heads)))
