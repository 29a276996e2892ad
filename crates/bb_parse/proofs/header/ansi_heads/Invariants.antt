use Rattle.std.proofs.Common.{◌≡◌, ◌-◌, map}
use Rattle.bb_ast.specs.Inside.Views.{head_view}
use Rattle.bb_parse.specs.Inside.Steps.{with_prefix}
use Rattle.bb_parse.specs.Inside.Declarations.{read_ansi_heads, read_ansi_more}
use Rattle.bb_parse.proofs.header.ansi_heads.Given as goal

abbrev pub invariant-loop-turn : goal.invariant-loop-turn
invariant-loop-turn l = read_ansi_heads l.fn.cursor ≡ with_prefix (map head_view l.heads.items) (read_ansi_more l.before (l.turn-end - l.turn) l.cursor)
