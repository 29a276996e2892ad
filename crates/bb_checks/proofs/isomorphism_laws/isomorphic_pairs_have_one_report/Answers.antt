use Rattle.bb_checks.proofs.IsomorphicClimbs.{isomorphic_pairs_have_one_report, isomorphic_reports_begin_as_one}
use Rattle.bb_checks.proofs.OneWord.{OneLaws}
use Rattle.bb_checks.proofs.isomorphism_laws.isomorphic_pairs_have_one_report.Goals as goal

pub returns : goal.returns
returns c =
    let one : OneLaws = record {
      weakens = record {
        patterns = c.conditions_weaken.ensures.patterns;
        known = c.conditions_weaken.ensures.known;
        one = c.conditions_weaken.ensures.one;
        some = c.conditions_weaken.ensures.some;
        choices = c.conditions_weaken.ensures.choices;
        kinds = c.laws_below.ensures.kinds;
      };
      vectors = c.patterns_are_vectors.ensures;
      bits = c.number_spelled_once.ensures;
      answers = c.answers_are_one.ensures;
    } in
    record {
      one = isomorphic_pairs_have_one_report c.laws_below.ensures one;
      begin = isomorphic_reports_begin_as_one c.laws_below.ensures one;
    }
