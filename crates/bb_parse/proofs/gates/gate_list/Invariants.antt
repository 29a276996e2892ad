use Rattle.std.proofs.Common.{◌≡◌, ◌-◌, map}
use Rattle.bb_ast.specs.Inside.Views.{gate_view}
use Rattle.bb_parse.specs.Inside.Steps.{with_prefix, read_list, read_more}
use Rattle.bb_parse.specs.Inside.Items.{read_gate}
use Rattle.bb_parse.proofs.gates.gate_list.Given as goal

abbrev pub invariant-loop-turn : goal.invariant-loop-turn
invariant-loop-turn l = read_list (read_gate l.depth) l.fn.cursor ≡ with_prefix (map gate_view l.all.items) (read_more (read_gate l.depth) (l.turn-end - l.turn) l.cursor)
