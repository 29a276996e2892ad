use Rattle.std.proofs.Common.{◌≡◌, ◌+◌, ◌*◌, ◌++◌, length, vec_len}
use Rattle.std.specs.List.{flat_map, range_with_len}
use Rattle.bb_bits.specs.Numbers.{bits_of}
use Rattle.bb_cnf.specs.Clauses.{lists_of}
use Rattle.bb_expand.specs.Expansions.{row_clauses}
use Rattle.bb_expand.proofs.rows.push_pin.Given as goal

abbrev pub invariant-loop-row : goal.invariant-loop-row
invariant-loop-row l = (vec_len l.bits ≡ length l.ins)
    × (lists_of l.clauses.items ≡ lists_of l.initial.clauses.items
    ++ flat_map (λ row. row_clauses (λ place. l.base + place + 1) l.ins l.y (bits_of (length l.ins) row) (l.start + row * l.outs + l.pin + 1)) (range_with_len 0 l.row))
