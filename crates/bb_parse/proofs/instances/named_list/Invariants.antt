use Rattle.std.proofs.Common.{◌≡◌, ◌-◌, map}
use Rattle.bb_ast.specs.Inside.Views.{named_view}
use Rattle.bb_parse.specs.Inside.Steps.{with_prefix, read_list, read_more}
use Rattle.bb_parse.specs.Inside.Items.{read_named}
use Rattle.bb_parse.proofs.instances.named_list.Given as goal

abbrev pub invariant-loop-turn : goal.invariant-loop-turn
invariant-loop-turn l = read_list (read_named l.depth) l.fn.cursor ≡ with_prefix (map named_view l.all.items) (read_more (read_named l.depth) (l.turn-end - l.turn) l.cursor)
