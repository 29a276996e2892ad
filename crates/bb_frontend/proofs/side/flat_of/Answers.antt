use Rattle.std.proofs.Common.{◌≡◌, ◌⊎◌, ℕ, List, Option, IfErr, option_copied, inl, inr, subst, sym, rules}
use Rattle.std.proofs.lemmas.Result.{IfErr-weaker}
use Rattle.bb_frontend.specs.declared.side_fault.SideFault.{SideFault}
use Rattle.bb_frontend.specs.declared.side_fault.SideFault.TheVariants.{NoMemory}
use Rattle.bb_frontend.specs.Inside.SideFaults.{of_elab}
use Rattle.bb_frontend.specs.TextDesigns.{IsSideFault}
use Rattle.bb_frontend.proofs.TextDesignLaws.{design_fault, design_occurs, fails_by_memory, fails_by_fault}
use Rattle.bb_frontend.proofs.side.flat_of.Goals as goal

-- the failure of what was read is one for every top
of_source : (text : List ℕ) (name : Option (List ℕ)) (fault : SideFault) → (fault ≡ NoMemory) ⊎ ((n : Option (List ℕ)) → IsSideFault n text fault) → (fault ≡ NoMemory) ⊎ IsSideFault name text fault
of_source text name fault (inl none) = inl none
of_source text name fault (inr each) = inr (each name)

pub returns-in_err-checked-clause-fault : goal.returns-in_err-checked-clause-fault
returns-in_err-checked-clause-fault c =
    let reported : IfErr c.from_residual.result (λ fault. fault ≡ c.in_err-checked.field-0.0) = search rules in
    let is = of_source c.args.text.now (option_copied c.args.top) c.in_err-checked.field-0.0 c.in_err-checked.ensures.fault in
    IfErr-weaker c.from_residual.result (λ fault. fault ≡ c.in_err-checked.field-0.0) _
    (λ fault e. subst (λ f. (f ≡ NoMemory) ⊎ IsSideFault (option_copied c.args.top) c.args.text.now f) (sym e) is) reported

pub returns-in_err-checked-clause-only_sound : goal.returns-in_err-checked-clause-only_sound
returns-in_err-checked-clause-only_sound c = fails_by_memory (option_copied c.args.top) c.args.text.now c.texts_have_designs.ensures.not_both c.from_residual.result (returns-in_err-checked-clause-fault c)

pub returns-in_err-checked-clause-only_fault : goal.returns-in_err-checked-clause-only_fault
returns-in_err-checked-clause-only_fault c = fails_by_fault (option_copied c.args.top) c.args.text.now c.texts_have_designs.ensures.faults c.from_residual.result c.from_residual.ensures.0 (returns-in_err-checked-clause-fault c)

pub returns-in_err-elaborate-clause-fault : goal.returns-in_err-elaborate-clause-fault
returns-in_err-elaborate-clause-fault c =
    let reported : IfErr c.from_residual-in_err-elaborate.result (λ fault. fault ≡ of_elab c.in_err-elaborate.field-0.0) = search rules in
    let is = design_fault (option_copied c.args.top) c.args.text.now _ c.in_ok-checked.ensures.ok c.in_ok-checked.ensures.sound c.in_err-elaborate.field-0.0 c.in_err-elaborate.ensures.fault in
    IfErr-weaker c.from_residual-in_err-elaborate.result (λ fault. fault ≡ of_elab c.in_err-elaborate.field-0.0) _
    (λ fault e. subst (λ f. (f ≡ NoMemory) ⊎ IsSideFault (option_copied c.args.top) c.args.text.now f) (sym e) is) reported

pub returns-in_err-elaborate-clause-only_sound : goal.returns-in_err-elaborate-clause-only_sound
returns-in_err-elaborate-clause-only_sound c = fails_by_memory (option_copied c.args.top) c.args.text.now c.texts_have_designs.ensures.not_both c.from_residual-in_err-elaborate.result (returns-in_err-elaborate-clause-fault c)

pub returns-in_err-elaborate-clause-only_fault : goal.returns-in_err-elaborate-clause-only_fault
returns-in_err-elaborate-clause-only_fault c = fails_by_fault (option_copied c.args.top) c.args.text.now c.texts_have_designs.ensures.faults c.from_residual-in_err-elaborate.result c.from_residual-in_err-elaborate.ensures.0 (returns-in_err-elaborate-clause-fault c)

pub returns-clause-ok : goal.returns-clause-ok
returns-clause-ok c = design_occurs (option_copied c.args.top) c.args.text.now _ c.in_ok-elaborate.field-0 c.in_ok-checked.ensures.ok c.in_ok-checked.ensures.sound c.in_ok-elaborate.ensures.sound c.in_ok-elaborate.ensures.ok

pub returns-clause-only_fault : goal.returns-clause-only_fault
returns-clause-only_fault c = λ first is. let d = returns-clause-ok c in c.texts_have_designs.ensures.not_both (option_copied c.args.top) c.args.text.now d.0 first d.1 is
