use Rattle.std.proofs.Common.{◌≡◌, map, length}
use Rattle.std.specs.List.{range_with_len}
use Rattle.bb_bits.specs.Truth.{variable}
use Rattle.bb_sym.specs.Inside.Made.{Makes, RepresentAll}
use Rattle.bb_sym.proofs.cells.make_variables.Given as goal

abbrev pub invariant-loop-v : goal.invariant-loop-v
invariant-loop-v l =
    let n = l.fn.d.store.vars in
    (length l.made.items ≡ l.v) × RepresentAll l.d.store (variable n) l.made.items × Makes l.fn.d.store l.d.store (map (variable n) (range_with_len 0 l.v))
