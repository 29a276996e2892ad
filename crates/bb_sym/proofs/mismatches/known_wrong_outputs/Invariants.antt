use Rattle.std.proofs.Common.{◌≡◌, flat_map, length}
use Rattle.std.specs.List.{range_with_len}
use Rattle.bb_sym.specs.Functions.{mismatch, mismatches}
use Rattle.bb_sym.specs.Inside.Made.{Makes, RepresentAll}
use Rattle.bb_sym.proofs.mismatches.known_wrong_outputs.Given as goal

abbrev pub invariant-loop-j : goal.invariant-loop-j
invariant-loop-j l =
    (length l.refs.items ≡ l.j) × RepresentAll l.d.store (mismatch l.pair.spec l.pair.imp) l.refs.items
    × Makes l.fn.d.store l.d.store (flat_map (mismatches l.pair.spec l.pair.imp) (range_with_len 0 l.j))
