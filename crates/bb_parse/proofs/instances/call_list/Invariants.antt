use Rattle.std.proofs.Common.{◌≡◌, ◌-◌, map}
use Rattle.bb_ast.specs.Inside.Views.{call_view}
use Rattle.bb_parse.specs.Inside.Steps.{with_prefix, read_list, read_more}
use Rattle.bb_parse.specs.Inside.Items.{read_call}
use Rattle.bb_parse.proofs.instances.call_list.Given as goal

abbrev pub invariant-loop-turn : goal.invariant-loop-turn
invariant-loop-turn l = read_list (read_call l.depth) l.fn.cursor ≡ with_prefix (map call_view l.all.items) (read_more (read_call l.depth) (l.turn-end - l.turn) l.cursor)
