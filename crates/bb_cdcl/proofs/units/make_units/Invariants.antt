use Rattle.std.proofs.Common.{◌≡◌, false}
use Rattle.bb_cnf.specs.declared.clauses.Lit.{Lit}
use Rattle.bb_cnf.specs.Clauses.{lists_of}
use Rattle.bb_cnf.specs.Inside.PartialResolvent.{held, AreListed}
use Rattle.bb_cdcl.specs.Inside.States.{Grows}
use Rattle.bb_cdcl.proofs.units.make_units.Given as goal

abbrev pub invariant-loop-place : goal.invariant-loop-place
invariant-loop-place l = record {
  grows : Grows (lists_of l.given) l.initial.s l.s;
  empty : (m : Lit) → held l.resolvent m ≡ false;
  listed : AreListed l.resolvent;
}
