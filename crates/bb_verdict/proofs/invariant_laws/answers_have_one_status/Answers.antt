use Rattle.bb_verdict.proofs.InvariantStatuses.{answers_have_one_status, answers_never_clash, broken_are_left_open}
use Rattle.bb_verdict.proofs.StatusLaw.{not_finished_and_refuted}
use Rattle.bb_verdict.proofs.invariant_laws.answers_have_one_status.Goals as goal

pub returns : goal.returns
returns c = record {
  one = answers_have_one_status c.designs_are_allowed.ensures c.texts_have_designs.ensures.designs c.invariants_are_not_broken.ensures c.answers_to_texts_are_meant.ensures c.statuses_are_one.ensures.one;
  clash = answers_never_clash c.answers_to_texts_are_meant.ensures (not_finished_and_refuted c.texts_have_designs.ensures.readings);
  broken = broken_are_left_open c.designs_are_allowed.ensures c.texts_have_designs.ensures.designs c.invariants_are_not_broken.ensures c.answers_to_texts_are_meant.ensures c.fitting_designs_have_pairs.ensures c.no_pair_and_refusal.ensures;
}
