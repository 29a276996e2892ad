-- One more statement has been read.
use Rattle.std.proofs.Common.{◌≡◌, ◌∙◌, ◌+◌, ◌-◌, Some, sym, ap, arith, map, option_map, option_to_list}
use Rattle.bb_ast.specs.Inside.Views.{module_view}
use Rattle.bb_parse.specs.Inside.Sources.{first_statement, with_modules, read_from}
use Rattle.bb_parse.proofs.SourceLoop.{source_next, statement_of_text, rest_of_text, first_lengths}
use Rattle.bb_parse.proofs.reader.read.Goals as goal

pub step-requires-clause-of_text : goal.step-requires-clause-of_text
step-requires-clause-of_text c =
    let first : first_statement c.loop-turn.rest.now ≡ Some (c.in-Some.statement.now, c.in-Some.after.now) = sym c.in-Some.ensures in
    statement_of_text c.args.text.now c.loop-turn.rest.now c.in-Some.statement.now c.in-Some.after.now first c.loop-turn.invariant.of_text

pub loop-turn-preserved : goal.loop-turn-preserved
loop-turn-preserved c =
    let first : first_statement c.loop-turn.rest.now ≡ Some (c.in-Some.statement.now, c.in-Some.after.now) = sym c.in-Some.ensures in
    record {
      read = c.loop-turn.invariant.read
          ∙ source_next c.args.text.now c.args.count c.loop-turn.turn (option_map module_view c.loop-turn.current) c.loop-turn.rest.now c.loop-turn-test.true
          (map module_view c.loop-turn.modules.items) c.in-Some.statement.now c.in-Some.after.now first
          (option_to_list (option_map module_view c.in_ok-closed.closed)) (option_map module_view c.in_ok-closed.next) c.in_ok-closed.ensures
          ∙ ap (λ prefix. with_modules prefix (read_from c.args.text.now (c.args.count - (c.loop-turn.turn + 1)) (option_map module_view c.in_ok-closed.next) c.in-Some.after.now))
          (sym c.in_ok-keep.ensures.ok);
      of_text = rest_of_text c.args.text.now c.loop-turn.rest.now c.in-Some.statement.now c.in-Some.after.now first c.loop-turn.invariant.of_text;
      small = omega (arith, first_lengths c.loop-turn.rest.now c.in-Some.statement.now c.in-Some.after.now first, c.loop-turn.invariant.small);
    }
