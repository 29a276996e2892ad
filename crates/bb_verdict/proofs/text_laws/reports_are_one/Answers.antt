use Rattle.bb_verdict.proofs.StatusLaw.{reports_are_one, reports_begin_as_one}
use Rattle.bb_verdict.proofs.text_laws.reports_are_one.Goals as goal

pub returns : goal.returns
returns c = record {
  one = reports_are_one c.text_pairs_are_isomorphic.ensures c.isomorphic_pairs_have_one_report.ensures.one;
  begin = reports_begin_as_one c.text_pairs_are_isomorphic.ensures c.isomorphic_pairs_have_one_report.ensures.begin;
}
