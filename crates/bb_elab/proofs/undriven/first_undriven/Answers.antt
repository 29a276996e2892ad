use Rattle.std.proofs.Common.{arith}
use Rattle.bb_elab.proofs.UndrivenBits.{first_at, all_driven}
use Rattle.bb_elab.proofs.undriven.first_undriven.Goals as goal

pub returns-then-counts-k-eq0-clause-some : goal.returns-then-counts-k-eq0-clause-some
returns-then-counts-k-eq0-clause-some c = λ d bounded counted reads. first_at c.laws_of_designs.ensures d c.args.counts.now c.args.read.now counted reads c.loop-k.k c.loop-k-test.true c.if-read-k.true c.if-counts-k-eq0.true c.loop-k.invariant

pub returns-clause-none : goal.returns-clause-none
returns-clause-none c = λ d bounded counted reads. all_driven c.laws_of_designs.ensures d c.args.counts.now c.args.read.now counted reads bounded (λ j lt. c.loop-k.invariant j (omega (arith, lt, c.loop-k-test.false)))
