use Rattle.std.proofs.Common.{sym, subst}
use Rattle.std.specs.Prelude.{IfErr, option_copied}
use Rattle.bb_match.proofs.CheckLemmas.{MayRefuse}
use Rattle.bb_match.proofs.pairing.pair_or_fault.Goals as goal

pub returns-in-None-clause-fault : goal.returns-in-None-clause-fault
returns-in-None-clause-fault c = subst (λ care. IfErr c.plain_pair.result (MayRefuse (option_copied care) c.args.spec c.args.imp)) (sym c.in-None.is) c.plain_pair.ensures.fault

pub returns-in-Some-clause-fault : goal.returns-in-Some-clause-fault
returns-in-Some-clause-fault c = subst (λ care. IfErr c.constrained_pair.result (MayRefuse (option_copied care) c.args.spec c.args.imp)) (sym c.in-Some.is) c.constrained_pair.ensures.fault
