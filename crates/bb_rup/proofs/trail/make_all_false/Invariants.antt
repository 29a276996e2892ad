use Rattle.std.proofs.Common.{take}
use Rattle.bb_cnf.specs.Clauses.{literals_of}
use Rattle.bb_rup.specs.Inside.Trails.{Makes}
use Rattle.bb_rup.proofs.trail.make_all_false.Given as goal

abbrev pub invariant-loop-lit : goal.invariant-loop-lit
invariant-loop-lit l = Makes l.initial.trail l.trail (literals_of (take l.lit-index l.clause))
