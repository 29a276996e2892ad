use Rattle.std.proofs.Common.{◌≡◌, ◌-◌, ◌<◌, ◌^◌, length, map, option_map}
use Rattle.std.specs.List.{AllByRecursion}
use Rattle.bb_ast.specs.Inside.Views.{module_view}
use Rattle.bb_lex.specs.Cut.{IsTokenOf}
use Rattle.bb_parse.specs.Inside.Sources.{with_modules, read_from, read_source}
use Rattle.bb_parse.proofs.reader.read.Given as goal

abbrev pub invariant-loop-turn : goal.invariant-loop-turn
invariant-loop-turn l = record {
  read : read_source l.text l.tokens ≡ with_modules (map module_view l.modules.items) (read_from l.text (l.count - l.turn) (option_map module_view l.current) l.rest);
  of_text : AllByRecursion (λ token. IsTokenOf token l.text) l.rest;
  small : length l.rest < 2 ^ 32;
}
