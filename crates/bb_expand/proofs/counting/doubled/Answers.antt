use Rattle.std.proofs.Common.{◌-◌, ◌*◌, ◌^◌, min, ap, ◌∙◌}
use Rattle.bb_expand.proofs.Counts.{doubled_more}
use Rattle.bb_expand.proofs.counting.doubled.Goals as goal

pub loop-preserved : goal.loop-preserved
loop-preserved c = c.saturating_mul-doubled.ensures ∙ ap (λ n. min (n * 2) (2 ^ 64 - 1)) c.loop.invariant ∙ doubled_more c.loop.counter c.args.number (2 ^ 64 - 1)
