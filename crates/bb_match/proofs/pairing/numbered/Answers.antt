use Rattle.std.proofs.Common.{None, refl, inl}
use Rattle.bb_lemmas.proofs.Tests.{if_err}
use Rattle.bb_match.specs.declared.fault.MatchFault.TheVariants.{NoMemory}
use Rattle.bb_match.proofs.CheckLemmas.{MayRefuse}
use Rattle.bb_match.proofs.pairing.numbered.Goals as goal

pub returns-in_err-check-clause-fault : goal.returns-in_err-check-clause-fault
returns-in_err-check-clause-fault c = if_err c.from_residual.result (MayRefuse None c.args.spec.now c.args.imp.now) c.in_err-check.field-0.0 c.from_residual.ensures.1 c.in_err-check.ensures.fault

pub returns-in_err-ins-clause-fault : goal.returns-in_err-ins-clause-fault
returns-in_err-ins-clause-fault c = if_err c.from_residual-in_err-ins.result (MayRefuse None c.args.spec.now c.args.imp.now) NoMemory c.from_residual-in_err-ins.ensures.1 (inl refl)

pub returns-in_err-outs-clause-fault : goal.returns-in_err-outs-clause-fault
returns-in_err-outs-clause-fault c = if_err c.from_residual-in_err-outs.result (MayRefuse None c.args.spec.now c.args.imp.now) NoMemory c.from_residual-in_err-outs.ensures.1 (inl refl)
