use Rattle.std.proofs.Common.{None, refl, inl}
use Rattle.bb_lemmas.proofs.Tests.{if_err}
use Rattle.bb_match.specs.declared.fault.MatchFault.TheVariants.{NoMemory}
use Rattle.bb_match.proofs.CheckLemmas.{MayRefuse}
use Rattle.bb_match.proofs.pairing.matched.Goals as goal

pub returns-in_err-of_spec-clause-fault : goal.returns-in_err-of_spec-clause-fault
returns-in_err-of_spec-clause-fault c = if_err c.from_residual.result (MayRefuse None c.args.spec.now c.args.imp.now) NoMemory c.from_residual.ensures.1 (inl refl)
