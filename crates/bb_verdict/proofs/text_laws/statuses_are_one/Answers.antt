use Rattle.bb_verdict.proofs.StatusLaw.{statuses_are_one, statuses_never_clash}
use Rattle.bb_verdict.proofs.text_laws.statuses_are_one.Goals as goal

pub returns : goal.returns
returns c =
    let clash = statuses_never_clash c.texts_have_designs.ensures.readings c.answers_are_meant.ensures.repairs c.answers_are_meant.ensures.errors in
    record {
      one = statuses_are_one c.no_pair_and_refusal.ensures clash c.left_open_stays_open.ensures.stays c.answers_are_meant.ensures.opens c.answers_are_meant.ensures.stays_open;
      clash = clash;
    }
