use Rattle.std.proofs.Common.{◌≡◌, ◌++◌, not, map, vec_items}
use Rattle.std.specs.List.{range_with_len}
use Rattle.bb_tern.specs.Patterns.{one_against_all}
use Rattle.bb_tern.proofs.drawing.push_alone.Given as goal

abbrev pub invariant-loop-i : goal.invariant-loop-i
invariant-loop-i l = map vec_items l.all.items ≡ map vec_items l.fn.all.items ++ map (one_against_all l.inputs l.bit (not l.bit)) (range_with_len 0 l.i)
