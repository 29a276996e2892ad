use Rattle.std.proofs.Common.{◌≡◌, ap, map}
use Rattle.std.specs.Prelude.{◌⊎◌}
use Rattle.bb_ast.specs.Inside.Views.{module_view, source_view}
use Rattle.bb_names.specs.declared.fault.NameFault.TheVariants.{NoMemory}
use Rattle.bb_names.specs.Faults.{IsFirstFault}
use Rattle.bb_names.proofs.Answering.{if_err, first_fault_of}
use Rattle.bb_names.proofs.checking.check.Goals as goal

pub returns-in_err-check_modules-clause-fault : goal.returns-in_err-check_modules-clause-fault
returns-in_err-check_modules-clause-fault c =
    let fault = c.in_err-check_modules.field-0.0 in
    if_err c.from_residual-in_err-check_modules.result (λ e. (e ≡ NoMemory) ⊎ IsFirstFault (source_view c.args.source) e) fault c.from_residual-in_err-check_modules.ensures.1
    (first_fault_of (map module_view c.in_ok-indexed.indexed) (source_view c.args.source) fault (ap (map module_view) c.in_ok-indexed.ensures) c.in_err-check_modules.ensures)
