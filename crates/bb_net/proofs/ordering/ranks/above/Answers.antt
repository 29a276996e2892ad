use Rattle.std.proofs.Common.{◌+◌, ◌<◌, ◌≤◌, get_or, arith}
use Rattle.std.specs.Prelude.{slice_index}
use Rattle.std.proofs.lemmas.Grind.{common_steps}
use Rattle.bb_net.proofs.WalkLemmas.{above_more}
use Rattle.bb_net.proofs.ordering.ranks.above.Goals as goal

pub loop-a-preserved : goal.loop-a-preserved
loop-a-preserved c =
    let i = c.loop-a.a-index in
    let places = c.args.places.now in
    let le : c.loop-a.above ≤ c.max-above.result = grind (arith, common_steps, c.max-above.ensures) in
    let top : c.from.result + 1 ≤ c.max-above.result = grind (arith, common_steps, c.max-above.ensures) in
    let here : slice_index c.args.ranks.now (get_or places i 0) < c.max-above.result = omega (arith, top, c.from.ensures, c.rank_at.ensures.rank) in
    above_more c.args.ranks.now places i c.loop-a.above c.max-above.result c.loop-a-test.true c.loop-a.invariant le here
