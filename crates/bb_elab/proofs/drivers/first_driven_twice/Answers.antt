use Rattle.std.proofs.Common.{arith}
use Rattle.bb_elab.proofs.CountedDrivers.{first_twice, none_twice}
use Rattle.bb_elab.proofs.drivers.first_driven_twice.Goals as goal

pub returns-then-counts-k-ge2-clause-some : goal.returns-then-counts-k-ge2-clause-some
returns-then-counts-k-ge2-clause-some c = λ d counted. first_twice c.laws_of_designs.ensures d c.args.counts.now counted c.loop-k.k c.loop-k-test.true c.if-counts-k-ge2.true c.loop-k.invariant

pub returns-clause-none : goal.returns-clause-none
returns-clause-none c = λ d bounded counted. none_twice c.laws_of_designs.ensures d c.args.counts.now counted bounded (λ j lt. c.loop-k.invariant j (omega (arith, lt, c.loop-k-test.false)))
