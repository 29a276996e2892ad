use Rattle.std.proofs.lemmas.Result.{IfOk-weaker}
use Rattle.bb_strash.specs.Inside.Miters.{HasOutputsOf}
use Rattle.bb_expand.proofs.Swept.{swept_none, swept_one}
use Rattle.bb_expand.proofs.outputs.by_sweeping.Goals as goal

pub returns-in-Some-clause-one : goal.returns-in-Some-clause-one
returns-in-Some-clause-one c =
    let so : HasOutputsOf c.args.net.now c.in-Some.merged = rw c.in-Some.is at c.in_ok-merged.ensures in
    IfOk-weaker c.by_outputs.result _ _ (λ search_result. swept_one c.args.net.now c.in-Some.merged so search_result) c.by_outputs.ensures.one

pub returns-in-Some-clause-zero : goal.returns-in-Some-clause-zero
returns-in-Some-clause-zero c =
    let so : HasOutputsOf c.args.net.now c.in-Some.merged = rw c.in-Some.is at c.in_ok-merged.ensures in
    IfOk-weaker c.by_outputs.result _ _ (λ search_result. swept_none c.args.net.now c.in-Some.merged so search_result) c.by_outputs.ensures.zero
