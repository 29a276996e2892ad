use Rattle.std.proofs.Common.{◌≡◌, ◌-◌, map}
use Rattle.bb_ast.specs.Inside.Views.{arm_view}
use Rattle.bb_parse.specs.Inside.Steps.{with_prefix, read_list, read_more}
use Rattle.bb_parse.specs.Inside.Items.{read_assignment}
use Rattle.bb_parse.proofs.items.assignments.Given as goal

abbrev pub invariant-loop-turn : goal.invariant-loop-turn
invariant-loop-turn l = read_list (read_assignment l.depth) l.fn.cursor ≡ with_prefix (map arm_view l.all.items) (read_more (read_assignment l.depth) (l.turn-end - l.turn) l.cursor)
