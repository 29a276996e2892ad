use Rattle.bb_verdict.proofs.InvariantAnswers.{answers_to_texts_are_meant}
use Rattle.bb_verdict.proofs.invariant_laws.answers_to_texts_are_meant.Goals as goal

pub returns : goal.returns
returns c = answers_to_texts_are_meant (record {
  fit = c.answers_are_meant.ensures.fit;
  errors = c.answers_are_meant.ensures.errors;
  shown = c.answers_are_meant.ensures.shown;
  repairs = c.answers_are_meant.ensures.repairs;
  opens = c.answers_are_meant.ensures.opens;
  open_reports = c.answers_are_meant.ensures.open_reports;
  stays_open = c.answers_are_meant.ensures.stays_open;
  decided = c.answers_are_meant.ensures.decided;
  refusals = c.answers_are_meant.ensures.refusals;
  refused = c.answers_are_meant.ensures.refused;
  one = c.refusals_are_one.ensures;
  apart = c.no_pair_and_refusal.ensures;
  read = c.texts_have_designs.ensures.readings;
  runs = c.invariants_hold_in_runs.ensures;
  allowed = c.designs_are_allowed.ensures;
  fits = c.pairs_implement_exactly_fitting.ensures;
})
