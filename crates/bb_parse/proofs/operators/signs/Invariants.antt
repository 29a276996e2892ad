use Rattle.std.proofs.Common.{◌≡◌, ◌-◌, ◌<◌, ◌^◌, length}
use Rattle.bb_parse.specs.Inside.Expressions.{read_signs, plus_signs}
use Rattle.bb_parse.proofs.operators.signs.Given as goal

abbrev pub invariant-loop-turn : goal.invariant-loop-turn
invariant-loop-turn l = record {
  counted : l.signs ≡ l.turn;
  read : read_signs (length l.fn.cursor) l.fn.cursor ≡ plus_signs l.signs (read_signs (l.turn-end - l.turn) l.cursor);
  small : l.turn-end < 2 ^ 32;
}
