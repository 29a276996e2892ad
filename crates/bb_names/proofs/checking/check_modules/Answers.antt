use Rattle.std.proofs.Common.{◌≡◌, [], ap, sym, refl, ◌∙◌, subst, map}
use Rattle.std.specs.Prelude.{◌⊎◌, Some}
use Rattle.std.specs.List.{take-map}
use Rattle.bb_ast.specs.Inside.Views.{module_view}
use Rattle.bb_names.specs.declared.fault.NameFault.TheVariants.{NoMemory}
use Rattle.bb_names.specs.Faults.{module_faults, faults_of}
use Rattle.bb_names.specs.Inside.Firsts.{first_of}
use Rattle.bb_names.proofs.Answering.{err_answers, item_answers, each-none}
use Rattle.bb_names.proofs.checking.check_modules.Goals as goal

pub returns-in_err-check_module : goal.returns-in_err-check_module
returns-in_err-check_module c =
    let src = c.args.source.now in
    let text = map module_view src in
    let k = c.loop-place.place in
    let m = module_view c.of-item.result in
    let fault = c.in_err-check_module.field-0.0 in
    let within = rw c.modules-of-items.ensures at c.loop-place-test.true in
    let at = rw c.modules-of-items.ensures at c.of-item.is in
    err_answers c.from_residual.result fault (faults_of text) c.from_residual.ensures.1
    (item_answers (module_faults text) module_view src k c.of-item.result [] fault within at refl c.loop-place.invariant
    (subst (λ z. (fault ≡ NoMemory) ⊎ (first_of (module_faults text z m) ≡ Some fault)) (take-map module_view k src) c.in_err-check_module.ensures.answers))

pub loop-place-preserved : goal.loop-place-preserved
loop-place-preserved c =
    let src = c.args.source.now in
    let text = map module_view src in
    let k = c.loop-place.place in
    let m = module_view c.of-item.result in
    let within = rw c.modules-of-items.ensures at c.loop-place-test.true in
    let at = rw c.modules-of-items.ensures at c.of-item.is in
    each-none (module_faults text) module_view src k c.of-item.result within at c.loop-place.invariant (ap (λ z. module_faults text z m) (sym (take-map module_view k src)) ∙ c.in_ok-check_module.ensures.answers)
