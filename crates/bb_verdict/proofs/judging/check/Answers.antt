use Rattle.std.proofs.Common.{◌≡◌, ℕ, List, ◌++◌, ◌∙◌, ap}
use Rattle.bb_verdict.specs.Inside.Made.{KeptFollows}
use Rattle.bb_checks.specs.Reports.{report_text, status_of, verdict_of}
use Rattle.bb_verdict.proofs.FollowLaws.{kept_none, kept_some}
use Rattle.bb_verdict.proofs.judging.check.Goals.{in-Some+in_ok-put_rest, in_default}
use Rattle.bb_verdict.proofs.judging.check.Goals as goal

pub put_rest-requires-clause-tables : goal.put_rest-requires-clause-tables
put_rest-requires-clause-tables c = λ tables gives.
    let can = rw c.in-Some.is at c.requires.kept in
    let agree = c.given_tables_make_equivalent.ensures c.args.made.now.pair c.args.options.now c.in_ok-lines.lines.items tables c.keeps.ensures.kept c.in_ok-lines.ensures.lines (rw c.deref-in-Some.ensures.value at gives) in
    rw c.kinds.ensures.kinds (can.tables tables agree.fit)

pub returns : goal.returns
returns c =
    let made = c.args.made.now in
    let lines = c.in_ok-lines.lines.items in
    let report = report_text made.pair c.args.options.now lines in
    let text = c.match-made.text.items in
    let reported = c.in_ok-text.ensures.text ∙ ap (report_text made.pair c.args.options.now) c.deref.ensures.value in
    let after = elim c.match-made.branch as (λ w. (rest : List ℕ) × KeptFollows made.imp made.pair.kinds lines rest × (text ≡ report ++ rest)) [
      | in-Some+in_ok-put_rest w ↦
          kept_some made.imp made.pair.kinds lines report text w.in-Some.imp w.kinds.result.now w.deref-in-Some.result.now c.in_ok-text.text.items w.put_rest.new.text.items w.in-Some.is w.kinds.ensures.kinds w.deref-in-Some.ensures.value
          reported (ap (λ v. v.items) w.text-is) w.in_ok-put_rest.ensures.put
      | in_default w ↦ kept_none made.imp made.pair.kinds lines report text w.in_default.is (ap (λ v. v.items) w.text-is ∙ reported)
    ] in
    record {
      answer = record {
        lines = lines;
        climb = c.in_ok-lines.ensures.lines;
        status = c.status.ensures.status ∙ ap status_of (c.verdict_of.ensures.verdict ∙ ap verdict_of c.deref-2.ensures.value);
        rest = after.0;
        follows = after.1;
        report = after.2;
      };
    }
