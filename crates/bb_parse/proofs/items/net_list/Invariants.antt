use Rattle.std.proofs.Common.{◌≡◌, ◌-◌, map}
use Rattle.bb_ast.specs.Inside.Views.{named_view}
use Rattle.bb_parse.specs.Inside.Steps.{with_prefix, read_list, read_more}
use Rattle.bb_parse.specs.Inside.Items.{read_net}
use Rattle.bb_parse.proofs.items.net_list.Given as goal

abbrev pub invariant-loop-turn : goal.invariant-loop-turn
invariant-loop-turn l = read_list (read_net l.depth) l.fn.cursor ≡ with_prefix (map named_view l.nets.items) (read_more (read_net l.depth) (l.turn-end - l.turn) l.cursor)
