use Rattle.std.proofs.Common.{◌≡◌, ◌⊎◌, subst}
use Rattle.std.specs.Prelude.{option_copied}
use Rattle.bb_lemmas.proofs.Tests.{if_err}
use Rattle.bb_match.specs.declared.fault.MatchFault.TheVariants.{NoMemory}
use Rattle.bb_match.specs.Pairing.{IsPairOf}
use Rattle.bb_match.proofs.CarePairs.{pair_small, pairs_fit, plain_small}
use Rattle.bb_match.proofs.CheckLemmas.{match_err, only_fit, only_fault}
use Rattle.bb_match.proofs.RefusalLaws.{not_fit_and_refused}
use Rattle.bb_match.proofs.pairing.pair.Goals as goal

pub returns-in_err-p-clause-only_fit : goal.returns-in_err-p-clause-only_fit
returns-in_err-p-clause-only_fit c = λ fit.
    let care = option_copied c.args.care in
    let fault = c.in_err-p.field-0.0 in
    if_err c.from_residual.result (λ fault. fault ≡ NoMemory) fault c.from_residual.ensures.1 (only_fit care c.args.spec c.args.imp fault c.in_err-p.ensures.fault fit)

pub returns-in_err-p-clause-only_fault : goal.returns-in_err-p-clause-only_fault
returns-in_err-p-clause-only_fault c = λ first is.
    let care = option_copied c.args.care in
    let fault = c.in_err-p.field-0.0 in
    match_err c.from_residual.result (λ fault. (fault ≡ first) ⊎ (fault ≡ NoMemory)) fault c.from_residual.ensures.1 (only_fault care c.args.spec c.args.imp fault first c.in_err-p.ensures.fault is)

pub returns-clause-only_fault : goal.returns-clause-only_fault
returns-clause-only_fault c = λ first is.
    let care = option_copied c.args.care in
    not_fit_and_refused care c.args.spec c.args.imp first (pairs_fit care c.args.shared c.args.spec c.args.imp c.in_ok-p.p c.in_ok-p.ensures.kept.0 c.in_ok-p.ensures.ok) is

pub returns-clause-plain_small : goal.returns-clause-plain_small
returns-clause-plain_small c = λ none.
    plain_small c.args.shared c.args.spec c.args.imp c.in_ok-p.p c.in_ok-p.ensures.kept.0 c.in_ok-p.ensures.kept.1 (subst (λ care. IsPairOf care c.args.shared c.args.spec c.args.imp c.in_ok-p.p) none c.in_ok-p.ensures.ok)

pub returns-clause-small : goal.returns-clause-small
returns-clause-small c = pair_small (option_copied c.args.care) c.args.shared c.args.spec c.args.imp c.in_ok-p.p c.in_ok-p.ensures.kept.0 c.in_ok-p.ensures.kept.1 c.in_ok-p.ensures.ok
