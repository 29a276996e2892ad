use Rattle.std.proofs.Common.{◌≡◌, ◌-◌, map}
use Rattle.bb_ast.specs.Inside.Views.{head_view}
use Rattle.bb_parse.specs.Inside.Steps.{with_prefix, read_list, read_more}
use Rattle.bb_parse.specs.Inside.Declarations.{read_head}
use Rattle.bb_parse.proofs.header.plain_heads.Given as goal

abbrev pub invariant-loop-turn : goal.invariant-loop-turn
invariant-loop-turn l = read_list read_head l.fn.cursor ≡ with_prefix (map head_view l.heads.items) (read_more read_head (l.turn-end - l.turn) l.cursor)
