use Rattle.std.proofs.Common.{◌++◌, ◌∷◌, [], ◌+◌, length, ap, sym, ◌∙◌, arith, append_assoc, length-append}
use Rattle.std.specs.List.{range_with_len}
use Rattle.bb_blast.proofs.NetNumbers.{run-more}
use Rattle.bb_blast.proofs.net_starts.add_run.Goals as goal

pub loop-turn-preserved : goal.loop-turn-preserved
loop-turn-preserved c =
    let more = c.in_ok-push.ensures.items in (
      more ∙ ap (λ l. l ++ (c.args.from + c.loop-turn.turn) ∷ []) c.loop-turn.invariant.0 ∙ append_assoc c.args.numbers.now.items (range_with_len c.args.from c.loop-turn.turn) ((c.args.from + c.loop-turn.turn) ∷ [])
          ∙ ap (λ l. c.args.numbers.now.items ++ l) (sym (run-more c.args.from c.loop-turn.turn)),
      ap length more ∙ omega (arith, length-append c.loop-turn.numbers.items ((c.args.from + c.loop-turn.turn) ∷ []), c.loop-turn.invariant.1),
    )
