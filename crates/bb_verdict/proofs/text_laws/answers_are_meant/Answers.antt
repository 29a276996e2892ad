use Rattle.bb_verdict.proofs.AnswerLaws.{answered_fit, decided_are_answered, errors_refute, judged_refusals_are_first, open_answers_leave_open, refused_are_answered_once, staying_open_are_answered}
use Rattle.bb_verdict.proofs.FilledAnswers.{repairs_finish}
use Rattle.bb_verdict.proofs.OpenLaw.{open_answers_are_reports}
use Rattle.bb_verdict.proofs.ShownLaw.{errors_are_shown}
use Rattle.bb_verdict.proofs.text_laws.answers_are_meant.Goals as goal

pub returns : goal.returns
returns c = record {
  fit = answered_fit c.designs_are_allowed.ensures c.pairs_implement_exactly_fitting.ensures;
  errors = errors_refute c.designs_are_allowed.ensures c.errors_exclude_tables.ensures c.no_tables_no_contents.ensures c.pairs_implement_exactly_fitting.ensures c.fitting_designs_are_comparable.ensures;
  shown = errors_are_shown c.designs_are_allowed.ensures c.found_vectors_are_mistakes.ensures c.errors_exclude_tables.ensures c.given_tables_make_equivalent.ensures c.wrong_outputs_are_mistakes.ensures c.wrong_vectors_are_mistakes.ensures c.pairs_are_named.ensures
      c.failing_vectors_are_mistakes.ensures c.refutations_show_vectors.ensures;
  repairs =
      repairs_finish c.designs_are_allowed.ensures c.no_tables_follow.ensures c.tables_spell_contents.ensures c.spelled_contents_make_equivalent.ensures c.pairs_implement_exactly_fitting.ensures
      c.fitting_designs_are_comparable.ensures c.pairs_have_box_orders.ensures c.fitting_tables_are_of_boxes.ensures c.repairs_make_equivalent.ensures c.tables_are_given_once.ensures
      c.equivalent_designs_run_the_same.ensures c.filled_texts_finish.ensures c.large_texts_are_of_large_designs.ensures;
  open_reports = open_answers_are_reports;
  opens = open_answers_leave_open c.text_pairs_are_isomorphic.ensures c.isomorphic_pairs_are_left_open.ensures.left c.climbs_leave_open.ensures;
  stays_open = staying_open_are_answered c.no_pair_and_refusal.ensures c.text_pairs_are_isomorphic.ensures c.isomorphic_pairs_are_left_open.ensures.stays c.staying_open_is_reported.ensures;
  decided = decided_are_answered c.no_pair_and_refusal.ensures c.text_pairs_are_isomorphic.ensures c.isomorphic_pairs_are_decided.ensures c.deciders_decide.ensures;
  refusals = judged_refusals_are_first;
  refused = refused_are_answered_once c.refusals_are_one.ensures c.no_pair_and_refusal.ensures;
}
