use Rattle.std.proofs.Common.{◌∙◌, ◌++◌, ◌∷◌, [], sym, ap, refl, ◌+◌}
use Rattle.bb_word.proofs.NetLemmas.{range_more}
use Rattle.bb_word.proofs.nets.operand.Goals as goal

pub loop-i-preserved : goal.loop-i-preserved
loop-i-preserved c =
    c.in_ok-push.ensures.items ∙ ap (λ l. l ++ (c.args.first + c.loop-i.i) ∷ []) c.loop-i.invariant ∙ sym (range_more c.args.first c.loop-i.i (c.args.first + c.loop-i.i) refl)
