use Rattle.std.proofs.Common.{◌≡◌, ◌≤◌, ◌||◌, true, take}
use Rattle.bb_cnf.specs.declared.clauses.Lit.{Lit}
use Rattle.bb_cnf.specs.Clauses.{literals_of, same_literal}
use Rattle.bb_cnf.specs.Inside.PartialResolvent.{held}
use Rattle.bb_cdcl.specs.Inside.Trails.{falsified}
use Rattle.bb_cdcl.proofs.backjumping.prefix.Given as goal

abbrev pub invariant-loop-lit : goal.invariant-loop-lit
invariant-loop-lit l = record {
  before : l.prefix ≤ l.place;
  others : (m : Lit) → literals_of (take l.lit-index l.lits) m ≡ true → held l.resolvent m ≡ true → (same_literal l.kept m || falsified (take l.prefix l.entries) m) ≡ true;
}
