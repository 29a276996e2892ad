use Rattle.std.proofs.Common.{◌≡◌, ◌++◌, ◌*◌, map, vec_items}
use Rattle.std.specs.List.{range_with_len}
use Rattle.bb_tern.specs.Patterns.{state_after, drawn_pattern}
use Rattle.bb_tern.proofs.drawing.push_drawn.Given as goal

abbrev pub invariant-loop : goal.invariant-loop
invariant-loop l = (map vec_items l.all.items ≡ map vec_items l.fn.all.items ++ map (drawn_pattern l.inputs l.fn.seed) (range_with_len 0 l.counter)) × (l.state ≡ state_after l.fn.seed (l.counter * l.inputs))
