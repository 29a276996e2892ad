use Rattle.std.proofs.Common.{◌^◌, [], ◌∷◌, ◌++◌, nat_le, ap, ◌∙◌}
use Rattle.bb_tern.proofs.DrawLemmas.{bits_more, state_more}
use Rattle.bb_tern.proofs.drawing.draw.Goals as goal

pub loop-preserved : goal.loop-preserved
loop-preserved c = λ seed n at.
    let kept = c.loop.invariant seed n at in (
      bits_more seed n c.loop.counter c.loop.state c.loop.pattern.items c.push.new.self.items kept.0 kept.1 (c.in_ok-push.ensures.items ∙ ap (λ t. c.loop.pattern.items ++ nat_le (2 ^ 63) t ∷ []) c.next.ensures),
      state_more seed n c.loop.counter c.loop.state c.next.result kept.1 c.next.ensures,
    )
