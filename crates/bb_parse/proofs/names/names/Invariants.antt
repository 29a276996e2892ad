use Rattle.std.proofs.Common.{◌≡◌, ◌-◌}
use Rattle.bb_parse.specs.Inside.Steps.{with_prefix, read_more, read_name, read_list}
use Rattle.bb_parse.proofs.names.names.Given as goal

abbrev pub invariant-loop-turn : goal.invariant-loop-turn
invariant-loop-turn l = read_list read_name l.fn.cursor ≡ with_prefix l.names.items (read_more read_name (l.turn-end - l.turn) l.cursor)
