use Rattle.std.proofs.Common.{◌≡◌, ◌<◌, ℕ, take, All}
use Rattle.bb_net.specs.Pairs.{pin_count}
use Rattle.bb_nest.specs.Inside.Readers.{HasReader, own_refs, refs_before}
use Rattle.bb_nest.proofs.seeing.see_earlier.Given as goal

abbrev pub invariant-loop-pins : goal.invariant-loop-pins
invariant-loop-pins l =
    (l.start ≡ pin_count (take l.pins-index l.boxes)) × ((b : ℕ) → b < l.pins-index → All (HasReader (own_refs l.boxes b l.refs)) (refs_before l.boxes b l.refs))
