use Rattle.std.proofs.Common.{ap, ◌∙◌, length}
use Rattle.std.specs.List.{range_with_len}
use Rattle.std.proofs.lemmas.List.FromFn.{length-range_with_len}
use Rattle.std.proofs.lemmas.Result.{IfOk-weaker}
use Rattle.bb_care.proofs.OtherOutputs.{own_below, own_net}
use Rattle.bb_care.proofs.outputs.with_outs.Goals as goal

pub rearranged-requires-clause-count : goal.rearranged-requires-clause-count
rearranged-requires-clause-count c = ap length (c.deref.ensures.value ∙ c.in_ok-numbers.ensures.numbers) ∙ length-range_with_len 0 c.inputs.result ∙ c.inputs.ensures.inputs

pub rearranged-requires-clause-numbers : goal.rearranged-requires-clause-numbers
rearranged-requires-clause-numbers c =
    own_below c.args.net.inputs c.deref.result.now (c.deref.ensures.value ∙ c.in_ok-numbers.ensures.numbers ∙ ap (range_with_len 0) c.inputs.ensures.inputs)

pub returns : goal.returns
returns c = record {
  net = IfOk-weaker c.rearranged.result _ _ (λ new so. own_net c.args.net new c.inputs.result _ _ (c.deref.ensures.value ∙ c.in_ok-numbers.ensures.numbers) so) c.rearranged.ensures.ok;
}
