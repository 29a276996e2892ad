use Rattle.std.proofs.Common.{take, map}
use Rattle.bb_ast.specs.Inside.Views.{head_view}
use Rattle.bb_names.specs.Inside.Indexed.{ArePlaces}
use Rattle.bb_names.proofs.indexed.note_ports.Given as goal

abbrev pub invariant-loop-place : goal.invariant-loop-place
invariant-loop-place l = ArePlaces l.ports.entries (map (λ head. head.name) (map head_view (take l.place l.heads)))
