use Rattle.std.specs.Prelude.{option_map}
use Rattle.bb_verdict.proofs.InvariantJudged.{refuses_by}
use Rattle.bb_verdict.proofs.judging.answer.Goals as goal

pub returns-in-Err : goal.returns-in-Err
returns-in-Err c = record { answer = refuses_by (option_map (λ name. name.now) c.invariant_name.result) c.args.requested.now c.args.spec.now c.args.imp.now c.in-Err.refusal c.invariant_name.ensures.name c.in-Err.ensures.refusal c.refuse.result c.refuse.ensures.status c.refuse.ensures.report c.refuse.ensures.memory }
