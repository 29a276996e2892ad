use Rattle.std.proofs.Common.{◌≡◌, ◌<◌, ◌^◌, map, max, take}
use Rattle.bb_fill.specs.Words.{maximum, leading}
use Rattle.bb_fill.proofs.stems.most_of.Given as goal

abbrev pub invariant-loop-name : goal.invariant-loop-name
invariant-loop-name l = (l.most ≡ max l.fn.most (maximum (map leading (take l.name-index l.names)))) × (l.most < 2 ^ 63)
