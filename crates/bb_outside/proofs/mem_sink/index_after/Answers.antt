use Rattle.std.proofs.Common.{sym}
use Rattle.std.proofs.lemmas.List.{drop-drop}
use Rattle.bb_outside.proofs.mem_sink.index_after.Goals as goal

pub returns-then-at-plan-clause-rest : goal.returns-then-at-plan-clause-rest
returns-then-at-plan-clause-rest c = sym (drop-drop 1 c.args.at c.args.plan.now)
