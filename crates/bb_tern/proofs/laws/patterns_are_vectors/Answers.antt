use Rattle.bb_tern.proofs.PatternLengths.{patterns_are_vectors}
use Rattle.bb_tern.proofs.laws.patterns_are_vectors.Goals as goal

pub returns : goal.returns
returns c = patterns_are_vectors
