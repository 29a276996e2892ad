use Rattle.std.proofs.Common.{◌≡◌, ◌+◌, ◌≤◌, ◌<◌, ◌^◌, length, max}
use Rattle.bb_parse.specs.Nesting.{nesting, greatest_from}
use Rattle.bb_parse.proofs.statement.depth.Given as goal

abbrev pub invariant-loop-turn : goal.invariant-loop-turn
invariant-loop-turn l = record {
  greatest : max l.greatest (greatest_from l.square l.count l.cursor) ≡ nesting l.fn.cursor;
  left : length l.cursor + l.turn ≡ l.turn-end;
  count : l.count ≤ l.turn;
  least : l.count ≤ l.greatest;
  square : l.square ≤ l.turn;
  small : l.turn-end < 2 ^ 32;
}
