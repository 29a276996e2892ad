use Rattle.std.proofs.Common.{◌≡◌, Some, length, subst, arith}
use Rattle.bb_tern.specs.Inside.Lanes.{bits_in, ReportsWrong}
use Rattle.bb_tern.proofs.Passes.{reports_more}
use Rattle.bb_tern.proofs.comparing.differing_lanes.Goals as goal

pub loop-j-preserved : goal.loop-j-preserved
loop-j-preserved c = λ k l.
    reports_more (bits_in c.args.wanted.now k) (λ place. Some (bits_in c.args.given.now k place)) c.args.spec_outs.now c.args.imp_outs.now c.loop-j.j c.loop-j.lanes c.xor_word-word.result c.or_word-lanes.result k
    (c.xor_word-word.ensures k l) (c.or_word-lanes.ensures k l) (c.loop-j.invariant k l)

pub returns : goal.returns
returns c = λ k l.
    let all : c.loop-j.j ≡ length c.args.imp_outs.now = omega (arith, c.loop-j-test.false, c.loop-j.auto.j-end) in
    subst (λ n. ReportsWrong (bits_in c.args.wanted.now k) (λ place. Some (bits_in c.args.given.now k place)) c.args.spec_outs.now c.args.imp_outs.now n c.loop-j.lanes k) all (c.loop-j.invariant k l)
