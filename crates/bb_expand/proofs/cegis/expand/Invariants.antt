use Rattle.std.proofs.Common.{◌-◌, ◌^◌, length, All}
use Rattle.bb_subst.specs.Distinguishing.{AreEquivalentAt}
use Rattle.bb_net.specs.Kinds.{representatives, per_box}
use Rattle.bb_net.specs.Values.{FitBoxes}
use Rattle.bb_expand.specs.Inside.Sampling.{IsSampleSet, distinguishing_vectors, sample_vectors}
use Rattle.bb_expand.proofs.cegis.expand.Given as goal

abbrev pub invariant-loop-tables : goal.invariant-loop-tables
invariant-loop-tables l = record {
  samples : IsSampleSet l.pair.spec l.pair.imp l.pair.kinds l.clauses l.samples;
  fit : FitBoxes l.tables.items (representatives l.pair.kinds l.pair.imp.boxes);
  all : FitBoxes (per_box l.pair.kinds l.tables.items) l.pair.imp.boxes;
  agree : All (AreEquivalentAt l.pair.spec l.pair.imp (per_box l.pair.kinds l.tables.items)) (sample_vectors l.samples);
}

abbrev pub decreases-loop-tables : goal.decreases-loop-tables
decreases-loop-tables l = 2 ^ l.pair.imp.inputs - length (distinguishing_vectors l.samples)
