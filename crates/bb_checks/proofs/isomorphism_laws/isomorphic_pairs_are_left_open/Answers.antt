use Rattle.bb_checks.proofs.IsomorphicChecks.{isomorphic_pairs_are_left_open, isomorphic_pairs_depend_isomorphic, isomorphic_pairs_stay_open}
use Rattle.bb_checks.proofs.isomorphism_laws.isomorphic_pairs_are_left_open.Goals as goal

pub returns : goal.returns
returns c = record {
  left = isomorphic_pairs_are_left_open c.laws_below.ensures;
  stays = isomorphic_pairs_stay_open c.laws_below.ensures;
  search = isomorphic_pairs_depend_isomorphic c.laws_below.ensures;
}
