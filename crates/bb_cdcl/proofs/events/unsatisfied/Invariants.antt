use Rattle.std.proofs.Common.{All, take}
use Rattle.bb_cdcl.specs.Inside.Events.{IsSatisfied}
use Rattle.bb_cdcl.proofs.events.unsatisfied.Given as goal

abbrev pub invariant-loop-number : goal.invariant-loop-number
invariant-loop-number l = All (λ clause. IsSatisfied l.values clause.items) (take l.number l.clauses)
