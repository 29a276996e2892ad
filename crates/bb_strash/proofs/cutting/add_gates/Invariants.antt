use Rattle.std.proofs.Common.{◌≡◌, ◌≤◌, ◌*◌, length}
use Rattle.bb_strash.specs.Inside.Extensions.{Extends}
use Rattle.bb_strash.specs.Inside.Parts.{AreCut}
use Rattle.bb_strash.proofs.cutting.add_gates.Given as goal

abbrev pub invariant-loop-k : goal.invariant-loop-k
invariant-loop-k l = AreCut l.net l.leaves l.cells l.hashed l.places.items × Extends l.initial.hashed l.hashed (5 * l.k) × (l.k ≡ length l.places.items) × (l.k ≤ length l.cells)
