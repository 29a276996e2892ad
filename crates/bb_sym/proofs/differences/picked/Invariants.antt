use Rattle.std.proofs.Common.{◌≡◌, map, take}
use Rattle.bb_sym.specs.Inside.Made.{ref_at}
use Rattle.bb_sym.proofs.differences.picked.Given as goal

abbrev pub invariant-loop-place : goal.invariant-loop-place
invariant-loop-place l = l.picked.items ≡ map (ref_at l.refs) (take l.place-index l.places)
