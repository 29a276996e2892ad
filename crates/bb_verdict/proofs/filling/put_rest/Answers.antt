use Rattle.std.proofs.Common.{◌∙◌, sym}
use Rattle.bb_verdict.proofs.FollowLaws.{put_follows, same_verdict}
use Rattle.bb_verdict.proofs.filling.put_rest.Goals as goal

pub returns-in-Some : goal.returns-in-Some
returns-in-Some c =
    let repairable = sym c.verdict_of.ensures.verdict ∙ same_verdict c.verdict_of.result (sym c.eq.ensures ∙ c.if-eq.true) in
    record { put = put_follows c.put_filled.result c.args.imp.now c.args.kinds.now c.args.lines.now c.in-Some.tables.now c.args.text.now.items c.put_filled.new.text.items repairable c.in-Some.ensures.some c.put_filled.ensures.put }
