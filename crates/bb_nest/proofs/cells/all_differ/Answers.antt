use Rattle.std.proofs.Common.{◌≢◌, ◌∙◌, AllPairs, length, subst}
use Rattle.bb_nest.proofs.Loops.{places_apart, places_own}
use Rattle.bb_nest.proofs.cells.all_differ.Goals as goal

pub returns : goal.returns
returns c =
    let pair = c.args.pair.now in
    let same = c.kinds.ensures.kinds in (
      λ e. subst (AllPairs ◌≢◌) same (places_apart c.kinds.result.now (c.are_places.ensures.0 e)),
      λ apart. c.are_places.ensures.1 (places_own c.kinds.result.now (length pair.imp.boxes) (same ∙ c.kinds_may_differ.ensures.places pair.kinds pair.imp.boxes c.kinds.ensures.kept.beside.kinds apart)),
    )
