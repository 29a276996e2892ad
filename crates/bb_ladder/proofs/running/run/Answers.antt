use Rattle.std.proofs.Common.{inl, arith}
use Rattle.bb_ladder.proofs.CallRefusalLaws.{reported_at_two}
use Rattle.bb_ladder.proofs.CalmLemmas.{decided_sound, open_complete, refuted_sound}
use Rattle.bb_ladder.proofs.HeadlineLemmas.{made_is_read, no_sound, none_counted, open_compares, unread_counted, yes_sound}
use Rattle.bb_ladder.proofs.StatusBounds.{at_most_four}
use Rattle.bb_ladder.proofs.running.run.Goals as goal

pub returns-in-Ok-put_all-clause-status : goal.returns-in-Ok-put_all-clause-status
returns-in-Ok-put_all-clause-status g c = omega (arith, at_most_four _ c.in-Ok.answer.status c.in-Ok.answer.report.items c.in-Ok.ensures.answer)

pub returns-in-Ok-put_all-clause-silent : goal.returns-in-Ok-put_all-clause-silent
returns-in-Ok-put_all-clause-silent g c = λ five. absurd (omega (arith, five, at_most_four _ c.in-Ok.answer.status c.in-Ok.answer.report.items c.in-Ok.ensures.answer))

pub returns-in-Ok-put_all-clause-prefix : goal.returns-in-Ok-put_all-clause-prefix
returns-in-Ok-put_all-clause-prefix g c = λ six. absurd (omega (arith, six, at_most_four _ c.in-Ok.answer.status c.in-Ok.answer.report.items c.in-Ok.ensures.answer))

pub returns-in-Ok-put_all-clause-failed : goal.returns-in-Ok-put_all-clause-failed
returns-in-Ok-put_all-clause-failed g c = (
  λ six. absurd (omega (arith, six, at_most_four _ c.in-Ok.answer.status c.in-Ok.answer.report.items c.in-Ok.ensures.answer)),
  λ other. c.in-Ok-put_all.ensures.counted.1 (λ failed. cc failed),
)

pub returns-in-Ok-put_all-clause-whole : goal.returns-in-Ok-put_all-clause-whole
returns-in-Ok-put_all-clause-whole g c = λ small. (c.in-Ok.answer.report.items, rw c.deref.ensures.value at c.in-Ok-put_all.ensures.ok, c.in-Ok.ensures.answer)

pub returns-clause-prefix : goal.returns-clause-prefix
returns-clause-prefix g c = λ six.
    let cut = rw c.deref.ensures.value at c.in-Err.ensures.err in
    (c.in-Ok.answer.status, c.in-Ok.answer.report.items, cut.0, cut.1, cut.2, c.in-Ok.ensures.answer)

pub returns-in-Ok-put_all-clause-repairable : goal.returns-in-Ok-put_all-clause-repairable
returns-in-Ok-put_all-clause-repairable g c = λ answered from requested spec imp texts.
    (c.in-Ok.answer.report.items, rw c.deref.ensures.value at c.in-Ok-put_all.ensures.ok, (c.answers_speak_of_texts.ensures _ from c.in-Ok.answer.status c.in-Ok.answer.report.items requested spec imp c.in-Ok.ensures.answer texts).finished answered)

pub returns-in-Ok-put_all-clause-shown : goal.returns-in-Ok-put_all-clause-shown
returns-in-Ok-put_all-clause-shown g c = λ answered from requested spec imp texts.
    (c.in-Ok.answer.report.items, rw c.deref.ensures.value at c.in-Ok-put_all.ensures.ok, (c.answers_speak_of_texts.ensures _ from c.in-Ok.answer.status c.in-Ok.answer.report.items requested spec imp c.in-Ok.ensures.answer texts).shown answered)

pub returns-in-Ok-put_all-clause-open_report : goal.returns-in-Ok-put_all-clause-open_report
returns-in-Ok-put_all-clause-open_report g c = λ answered from requested spec imp texts.
    (c.in-Ok.answer.report.items, rw c.deref.ensures.value at c.in-Ok-put_all.ensures.ok, (c.answers_speak_of_texts.ensures _ from c.in-Ok.answer.status c.in-Ok.answer.report.items requested spec imp c.in-Ok.ensures.answer texts).open_report answered)

pub returns-in-Ok-put_all-clause-fit : goal.returns-in-Ok-put_all-clause-fit
returns-in-Ok-put_all-clause-fit g c = λ answered from requested spec imp texts. (c.answers_speak_of_texts.ensures _ from c.in-Ok.answer.status c.in-Ok.answer.report.items requested spec imp c.in-Ok.ensures.answer texts).fit answered

pub returns-in-Ok-put_all-clause-error : goal.returns-in-Ok-put_all-clause-error
returns-in-Ok-put_all-clause-error g c = λ answered from requested spec imp texts. (c.answers_speak_of_texts.ensures _ from c.in-Ok.answer.status c.in-Ok.answer.report.items requested spec imp c.in-Ok.ensures.answer texts).refuted answered

pub returns-in-Ok-put_all-clause-left_open : goal.returns-in-Ok-put_all-clause-left_open
returns-in-Ok-put_all-clause-left_open g c = λ answered from requested spec imp texts. (c.answers_speak_of_texts.ensures _ from c.in-Ok.answer.status c.in-Ok.answer.report.items requested spec imp c.in-Ok.ensures.answer texts).left_open answered

pub returns-in-Ok-put_all-clause-unread : goal.returns-in-Ok-put_all-clause-unread
returns-in-Ok-put_all-clause-unread g c = λ four. unread_counted c.answers_to_texts_are_meant.ensures c.refutations_are_answered.ensures _ c.in-Ok.answer.status c.in-Ok.answer.report.items c.in-Ok.ensures.answer four

pub returns-in-Ok-put_all-clause-readable : goal.returns-in-Ok-put_all-clause-readable
returns-in-Ok-put_all-clause-readable g c = λ small. none_counted _ c.in-Ok.answer.status c.in-Ok.answer.report.items c.in-Ok.ensures.answer small

pub returns-in-Ok-put_all-clause-decided : goal.returns-in-Ok-put_all-clause-decided
returns-in-Ok-put_all-clause-decided g c = λ from requested spec imp texts spec_short imp_short calm decided quiet. inl
    (decided_sound c.words_request_once.ensures c.answers_to_texts_are_meant.ensures requested spec imp spec_short imp_short decided _ from c.in-Ok.answer.status c.in-Ok.answer.report.items texts calm c.in-Ok.ensures.answer)

pub returns-in-Ok-put_all-clause-stays_open : goal.returns-in-Ok-put_all-clause-stays_open
returns-in-Ok-put_all-clause-stays_open g c = λ from requested spec imp texts spec_short imp_short calm stays quiet. inl
    (open_complete c.words_request_once.ensures c.answers_to_texts_are_meant.ensures requested spec imp spec_short imp_short stays _ from c.in-Ok.answer.status c.in-Ok.answer.report.items texts calm c.in-Ok.ensures.answer)

pub returns-in-Ok-put_all-clause-refused : goal.returns-in-Ok-put_all-clause-refused
returns-in-Ok-put_all-clause-refused g c = λ two from reported. (
  c.in-Ok.answer.report.items,
  rw c.deref.ensures.value at c.in-Ok-put_all.ensures.ok,
  reported_at_two c.calls_are_refused.ensures.refusals _ from c.in-Ok.answer.status c.in-Ok.answer.report.items c.in-Ok.ensures.answer two reported,
)

pub returns-in-Ok-put_all-clause-stays_refused : goal.returns-in-Ok-put_all-clause-stays_refused
returns-in-Ok-put_all-clause-stays_refused g c = λ from line refused calm quiet.
    let is = c.calls_are_refused.ensures.refused _ from c.in-Ok.answer.status c.in-Ok.answer.report.items line c.in-Ok.ensures.answer refused calm in
    let written = rw c.deref.ensures.value at c.in-Ok-put_all.ensures.ok in
    inl (is.0, rw is.1 at written)

pub returns-in-Ok-put_all-clause-refuted_yes : goal.returns-in-Ok-put_all-clause-refuted_yes
returns-in-Ok-put_all-clause-refuted_yes g c = λ zero from f first second texts.
    let written = rw c.deref.ensures.value at c.in-Ok-put_all.ensures.ok in
    let found = yes_sound c.words_request_once.ensures c.refutations_are_answered.ensures _ from c.in-Ok.answer.status c.in-Ok.answer.report.items f first second c.in-Ok.ensures.answer zero texts in
    (rw found.0 at written, found.1)

pub returns-in-Ok-put_all-clause-refuted_no : goal.returns-in-Ok-put_all-clause-refuted_no
returns-in-Ok-put_all-clause-refuted_no g c = λ one from f first second texts.
    let written = rw c.deref.ensures.value at c.in-Ok-put_all.ensures.ok in
    let found = no_sound c.words_request_once.ensures c.refutations_are_answered.ensures _ from c.in-Ok.answer.status c.in-Ok.answer.report.items f first second c.in-Ok.ensures.answer one texts in
    (found.0, rw found.1 at written, found.2)

pub returns-in-Ok-put_all-clause-refuted : goal.returns-in-Ok-put_all-clause-refuted
returns-in-Ok-put_all-clause-refuted g c = λ from f first second texts short also calm formula adds read quiet. inl
    (refuted_sound c.words_request_once.ensures c.refutations_are_answered.ensures f first second formula adds short also read _ from c.in-Ok.answer.status c.in-Ok.answer.report.items texts calm c.in-Ok.ensures.answer)

pub returns-in-Ok-put_all-clause-open_compares : goal.returns-in-Ok-put_all-clause-open_compares
returns-in-Ok-put_all-clause-open_compares g c = λ three.
    open_compares c.words_request_once.ensures c.refutations_are_answered.ensures _ c.in-Ok.answer.status c.in-Ok.answer.report.items c.in-Ok.ensures.answer three

pub returns-in-Ok-put_all-clause-given : goal.returns-in-Ok-put_all-clause-given
returns-in-Ok-put_all-clause-given g c = λ earlier known. c.answered_have_given.ensures _ c.in-Ok.answer.status c.in-Ok.answer.report.items earlier c.in-Ok.ensures.answer known

pub returns-in-Ok-put_all-clause-reads_nothing : goal.returns-in-Ok-put_all-clause-reads_nothing
returns-in-Ok-put_all-clause-reads_nothing g c = λ m makes.
    (c.in-Ok.ensures.reads_nothing m makes, made_is_read c.answers_to_texts_are_meant.ensures c.words_request_once.ensures m _ c.in-Ok.answer.status c.in-Ok.answer.report.items makes c.in-Ok.ensures.answer)
