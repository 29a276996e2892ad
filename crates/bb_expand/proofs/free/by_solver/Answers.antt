use Rattle.std.proofs.Common.{subst, sym, ap, ◌∙◌, take}
use Rattle.bb_miter.specs.Inside.Equivalence.{DiffersAt}
use Rattle.bb_expand.proofs.FreeDecided.{no_model}
use Rattle.bb_expand.proofs.free.by_solver.Goals as goal

pub returns-in-Decided-Sat-clause-at : goal.returns-in-Decided-Sat-clause-at
returns-in-Decided-Sat-clause-at c =
    let decided = rw c.in-Decided-Sat.is at c.in_ok-bits.ensures.sat in
    let model = rw c.in-Decided-Sat.field-0-is at decided in
    let whole = rw c.in_ok-cnf.ensures.cnf at model in
    let differs = c.models_are_differences.ensures.first c.args.spec.now c.args.imp.now c.in_ok-cnf.ensures.spec c.in_ok-cnf.ensures.imp c.requires.comparable c.in-Decided-Sat.bits.items whole in
    subst (DiffersAt c.args.spec.now c.args.imp.now) (sym (c.truncate.ensures.items ∙ ap (λ n. take n c.in-Decided-Sat.bits.items) c.inputs.ensures.inputs)) differs

pub returns-in-Decided-Unsat-clause-nowhere : goal.returns-in-Decided-Unsat-clause-nowhere
returns-in-Decided-Unsat-clause-nowhere c =
    let decided = rw c.in-Decided-Unsat.is at c.in_ok-bits.ensures.exact in
    let exact = rw c.in-Decided-Unsat.field-0-is at decided in
    let whole = rw c.in_ok-cnf.ensures.cnf at exact in
    no_model c.models_are_differences.ensures.models c.args.spec.now c.args.imp.now c.in_ok-cnf.ensures.spec c.in_ok-cnf.ensures.imp c.requires.comparable whole.1
