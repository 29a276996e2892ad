use Rattle.bb_ladder.proofs.CallRefusalLaws.{call_refusals_are_one, refusals_are_reported, refused_calls_are_reported}
use Rattle.bb_ladder.proofs.call_laws.calls_are_refused.Goals as goal

pub returns : goal.returns
returns c = record {
  once = call_refusals_are_one c.words_request_once.ensures c.refutations_are_answered.ensures c.refusals_are_one.ensures;
  refusals = refusals_are_reported c.answers_to_texts_are_meant.ensures c.refutations_are_answered.ensures;
  refused = refused_calls_are_reported c.words_request_once.ensures c.refutations_are_answered.ensures c.answers_to_texts_are_meant.ensures;
}
