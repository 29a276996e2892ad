use Rattle.bb_verdict.proofs.TextPairLaws.{only_pair, only_refusal}
use Rattle.bb_verdict.proofs.pair_texts.pair_of.Goals as goal

pub returns-clause-only_pair : goal.returns-clause-only_pair
returns-clause-only_pair c = only_pair c.refusals_are_one.ensures c.no_pair_and_refusal.ensures c.args.requested.now c.args.spec.now c.args.imp.now c.make.result c.make.ensures.refusal

pub returns-clause-only_refusal : goal.returns-clause-only_refusal
returns-clause-only_refusal c = only_refusal c.refusals_are_one.ensures c.no_pair_and_refusal.ensures c.args.requested.now c.args.spec.now c.args.imp.now c.make.result c.make.ensures.ok c.make.ensures.refusal
