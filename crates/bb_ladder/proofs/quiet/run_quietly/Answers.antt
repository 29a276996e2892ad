use Rattle.std.proofs.Common.{refl}
use Rattle.bb_ladder.specs.Sources.{Held}
use Rattle.bb_ladder.proofs.QuietLemmas.{all_held, left_first, never_failed, never_rose}
use Rattle.bb_ladder.proofs.quiet.run_quietly.Goals as goal

pub returns-clause-whole : goal.returns-clause-whole
returns-clause-whole c = λ small. let found = c.run.ensures.whole small in (found.0, found.2)

pub returns-clause-calm : goal.returns-clause-calm
returns-clause-calm c = λ from. never_failed from _ _ refl refl

pub returns-clause-repairable : goal.returns-clause-repairable
returns-clause-repairable c = λ answered from requested spec imp texts.
    let (text, written, (report, same, holds)) = c.run.ensures.repairable answered from requested spec imp texts in (report, holds)

pub returns-clause-shown : goal.returns-clause-shown
returns-clause-shown c = λ answered from requested spec imp texts.
    let (text, written, (report, same, holds)) = c.run.ensures.shown answered from requested spec imp texts in (report, holds)

pub returns-clause-open_report : goal.returns-clause-open_report
returns-clause-open_report c = λ answered from requested spec imp texts.
    let (text, written, (report, same, holds)) = c.run.ensures.open_report answered from requested spec imp texts in (report, holds)

pub returns-clause-stays_open : goal.returns-clause-stays_open
returns-clause-stays_open c = λ from requested spec imp texts short low calm left. c.run.ensures.stays_open from requested spec imp texts short low calm left never_rose

pub returns-clause-decided : goal.returns-clause-decided
returns-clause-decided c = λ from requested spec imp texts short low calm decides. c.run.ensures.decided from requested spec imp texts short low calm decides never_rose

pub returns-clause-refuted_yes : goal.returns-clause-refuted_yes
returns-clause-refuted_yes c = λ zero from f first second texts. (c.run.ensures.refuted_yes zero from f first second texts).1

pub returns-clause-refuted_no : goal.returns-clause-refuted_no
returns-clause-refuted_no c = λ one from f first second texts. let found = c.run.ensures.refuted_no one from f first second texts in (found.0, found.2)

pub returns-clause-refuted : goal.returns-clause-refuted
returns-clause-refuted c = λ from f first second texts short low calm formula adds read. c.run.ensures.refuted from f first second texts short low calm formula adds read never_rose

pub returns-clause-refused : goal.returns-clause-refused
returns-clause-refused c = λ two. let found = c.run.ensures.refused two Held (all_held _ c.args.files.now _ _) in (found.0, found.2)

pub returns-clause-stays_refused : goal.returns-clause-stays_refused
returns-clause-stays_refused c = λ line refused. left_first (c.run.ensures.stays_refused Held line refused never_rose never_rose)

pub returns-clause-reads_nothing : goal.returns-clause-reads_nothing
returns-clause-reads_nothing c = λ m requests. (c.run.ensures.reads_nothing m requests).0
