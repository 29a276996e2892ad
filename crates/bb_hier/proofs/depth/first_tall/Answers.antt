use Rattle.std.specs.Prelude.{nat_le}
use Rattle.std.specs.List.{slice_index_or}
use Rattle.bb_hier.proofs.DepthHeights.{last_tall}
use Rattle.bb_hier.proofs.depth.first_tall.Goals as goal

pub returns-after-loop-k-clause-tall : goal.returns-after-loop-k-clause-tall
returns-after-loop-k-clause-tall c =
    last_tall (λ k. nat_le c.args.least (slice_index_or c.args.heights.now k 0)) c.args.called.now c.loop-k.k c.requires.some c.loop-k.invariant.0 c.loop-k-test.false c.loop-k.invariant.1
