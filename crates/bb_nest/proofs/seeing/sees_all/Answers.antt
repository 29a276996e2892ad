use Rattle.std.proofs.Common.{◌<◌, length, arith}
use Rattle.std.proofs.lemmas.List.{take_all}
use Rattle.std.proofs.lemmas.List.Elements.{All-more}
use Rattle.bb_nest.specs.Inside.Readers.{HasReader}
use Rattle.bb_nest.proofs.seeing.sees_all.Goals as goal

pub loop-r-preserved : goal.loop-r-preserved
loop-r-preserved c =
    let low : c.reader.result < length c.args.ins.now = omega (arith, c.reader.ensures.most, c.if-reader-ins.false) in
    All-more (HasReader c.args.ins.now) c.args.refs.now c.loop-r.r-index (record { 0 = 0 }) c.loop-r-test.true c.loop-r.invariant (c.reader.result, c.reader.ensures.found low)

pub returns-clause-yes : goal.returns-clause-yes
returns-clause-yes c = λ e. rw (take_all c.loop-r.r-index c.args.refs.now c.loop-r-test.false) at c.loop-r.invariant
