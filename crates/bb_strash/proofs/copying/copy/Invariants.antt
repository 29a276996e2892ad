use Rattle.std.proofs.Common.{◌*◌}
use Rattle.bb_strash.specs.Inside.Copies.{AreCopied}
use Rattle.bb_strash.specs.Inside.Extensions.{Extends}
use Rattle.bb_strash.proofs.copying.copy.Given as goal

abbrev pub invariant-loop-number : goal.invariant-loop-number
invariant-loop-number g l = AreCopied l.source l.number l.hashed l.places.items × Extends l.initial.hashed l.hashed (15 * l.number)
