use Rattle.std.proofs.Common.{◌≢◌, All, take}
use Rattle.bb_match.proofs.care.place_of.Given as goal

abbrev pub invariant-loop-place : goal.invariant-loop-place
invariant-loop-place l = All (λ name. name ≢ l.text) (take l.place l.texts)
