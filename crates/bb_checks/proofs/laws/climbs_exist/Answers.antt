use Rattle.bb_checks.proofs.SomeClimbs.{climbs_exist}
use Rattle.bb_checks.proofs.laws.climbs_exist.Goals as goal

pub returns : goal.returns
returns c = climbs_exist (record {
  sizes = c.sizes.ensures;
  vectors = c.patterns_are_vectors.ensures;
  hits = c.hit_or_none.ensures;
  findings = c.findings_exist.ensures;
  inputs = c.answers_exist.ensures;
  expansions = c.answers_exist-2.ensures.answer;
})
