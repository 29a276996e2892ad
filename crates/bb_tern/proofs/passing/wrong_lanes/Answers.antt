use Rattle.std.proofs.Common.{◌≡◌, length, slice_index, subst, arith}
use Rattle.bb_tern.specs.Inside.Lanes.{ReportsWrong}
use Rattle.bb_tern.proofs.Passes.{reports_more}
use Rattle.bb_tern.proofs.passing.wrong_lanes.Goals as goal

pub loop-j-preserved : goal.loop-j-preserved
loop-j-preserved c = λ k bit value l bits values.
    reports_more bit value c.args.spec_outs.now c.args.imp_outs.now c.loop-j.j c.loop-j.lanes c.wrong_word-word.result c.or_word-lanes.result k
    (c.wrong_word-word.ensures k (bit (slice_index c.args.spec_outs.now c.loop-j.j)) (value (slice_index c.args.imp_outs.now c.loop-j.j)) l (bits (slice_index c.args.spec_outs.now c.loop-j.j) (c.requires.spec_cells c.loop-j.j 0 (omega (arith, c.requires.same)))) (values (slice_index c.args.imp_outs.now c.loop-j.j) (c.requires.imp_cells c.loop-j.j 0 (omega arith))))
    (c.or_word-lanes.ensures k l) (c.loop-j.invariant k bit value l bits values)

pub returns : goal.returns
returns c = λ k bit value l bits values.
    let all : c.loop-j.j ≡ length c.args.imp_outs.now = omega (arith, c.loop-j-test.false, c.loop-j.auto.j-end) in
    subst (λ n. ReportsWrong bit value c.args.spec_outs.now c.args.imp_outs.now n c.loop-j.lanes k) all (c.loop-j.invariant k bit value l bits values)
