use Rattle.std.proofs.Common.{[], ◌∷◌, ◌++◌, suc, map, drop, subst, ◌∙◌}
use Rattle.std.specs.Prelude.{vec_items}
use Rattle.bb_net.specs.Equivalence.{IsVector}
use Rattle.bb_expand.specs.Inside.Failures.{AreDistinctWith}
use Rattle.bb_expand.specs.Inside.Sampling.{sample_vectors}
use Rattle.bb_expand.proofs.SampleVectors.{distinct_left, taken_next, up_to_next}
use Rattle.bb_expand.proofs.sampling.hold_others.Goals as goal

pub hold-requires-clause-each : goal.hold-requires-clause-each
hold-requires-clause-each c =
    let now = sample_vectors c.loop-x.samples in
    let prefix = up_to_next vec_items (sample_vectors c.args.samples) now c.args.vectors.now c.loop-x.x-index c.x-item.result c.deref.result.now c.loop-x-test.true c.x-item.is c.deref.ensures.value c.loop-x.invariant.vectors in
    distinct_left (IsVector c.args.pair.now.imp) (now ++ c.deref.result.now ∷ []) (map vec_items (drop (suc c.loop-x.x-index) c.args.vectors.now)) (subst (AreDistinctWith (IsVector c.args.pair.now.imp)) prefix c.requires.each)

pub loop-x-preserved : goal.loop-x-preserved
loop-x-preserved c = record {
  vectors = c.in_ok-samples.ensures.vectors
      ∙ taken_next vec_items (sample_vectors c.args.samples) (sample_vectors c.loop-x.samples) c.args.vectors.now c.loop-x.x-index c.x-item.result c.deref.result.now c.loop-x-test.true c.x-item.is c.deref.ensures.value c.loop-x.invariant.vectors;
  distinguishing = c.in_ok-samples.ensures.distinguishing ∙ c.loop-x.invariant.distinguishing;
  samples = c.in_ok-samples.ensures.samples;
}
