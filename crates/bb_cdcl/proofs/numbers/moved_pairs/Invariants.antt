use Rattle.std.proofs.Common.{◌≡◌, map, take}
use Rattle.bb_cdcl.specs.Laws.Numbers.{moved_pair}
use Rattle.bb_cdcl.proofs.numbers.moved_pairs.Given as goal

abbrev pub invariant-loop-pair : goal.invariant-loop-pair
invariant-loop-pair l = l.all.items ≡ map (moved_pair l.given l.more) (take l.pair-index l.pairs)
