use Rattle.std.proofs.Common.{◌≡◌, ◌++◌, map, take}
use Rattle.std.specs.Prelude.{vec_items}
use Rattle.bb_expand.specs.Inside.Sampling.{IsSampleSet, sample_vectors}
use Rattle.bb_expand.proofs.sampling.hold_others.Given as goal

abbrev pub invariant-loop-x : goal.invariant-loop-x
invariant-loop-x l = record {
  vectors : sample_vectors l.samples ≡ sample_vectors l.initial.samples ++ map vec_items (take l.x-index l.vectors);
  distinguishing : l.samples.distinguishing.items ≡ l.initial.samples.distinguishing.items;
  samples : IsSampleSet l.pair.spec l.pair.imp l.pair.kinds l.clauses l.samples;
}
