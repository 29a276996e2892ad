use Rattle.std.proofs.Common.{◌≡◌, take}
use Rattle.bb_cnf.specs.declared.clauses.Lit.{Lit}
use Rattle.bb_cnf.specs.Clauses.{literals_of, union, without_literal}
use Rattle.bb_cnf.specs.Inside.PartialResolvent.{held, AreListed}
use Rattle.bb_cnf.proofs.partial_resolvent.PartialResolvent.put_others.Given as goal

abbrev pub invariant-loop-lit : goal.invariant-loop-lit
invariant-loop-lit l =
    ((m : Lit) → held l.self m ≡ union (held l.initial.self) (without_literal (literals_of (take l.lit-index l.lits)) l.but) m) × AreListed l.self
