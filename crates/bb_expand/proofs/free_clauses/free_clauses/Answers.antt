use Rattle.std.proofs.Common.{◌+◌, length, ap, ap₂, ◌∙◌, subst, sym, arith}
use Rattle.std.proofs.lemmas.List.{map-append}
use Rattle.smallvec.specs.SmallVec.{SmallVec}
use Rattle.bb_cnf.specs.declared.clauses.Lit.{Lit}
use Rattle.bb_cdcl.specs.Inside.Outcomes.{formula}
use Rattle.bb_cnf.specs.Clauses.{HasVariablesWithin, lists_of}
use Rattle.bb_expand.proofs.FreeCounts.{all_variables_fit, free_pushed}
use Rattle.bb_expand.proofs.free_clauses.free_clauses.Goals as goal

pub overflow_add-wanted : goal.overflow_add-wanted
overflow_add-wanted c =
    let fits = all_variables_fit c.args.spec.now c.args.imp.now c.cells-2.ensures.kept c.inputs-inputs.ensures.kept c.requires.comparable c.requires.few in
    omega (arith, fits, c.inputs-inputs.ensures.inputs, ap length c.cells.ensures.cells)

pub overflow_add-base : goal.overflow_add-base
overflow_add-base c =
    let fits = all_variables_fit c.args.spec.now c.args.imp.now c.cells-2.ensures.kept c.inputs-inputs.ensures.kept c.requires.comparable c.requires.few in
    omega (arith, fits, c.inputs-inputs.ensures.inputs, ap length c.cells.ensures.cells, ap length c.cells-2.ensures.cells)

pub overflow_cast-vars : goal.overflow_cast-vars
overflow_cast-vars c =
    let fits = all_variables_fit c.args.spec.now c.args.imp.now c.cells-2.ensures.kept c.inputs-inputs.ensures.kept c.requires.comparable c.requires.few in
    omega (arith, fits, ap length c.outs.ensures.outs)

pub overflow_add-vars : goal.overflow_add-vars
overflow_add-vars c =
    let fits = all_variables_fit c.args.spec.now c.args.imp.now c.cells-2.ensures.kept c.inputs-inputs.ensures.kept c.requires.comparable c.requires.few in
    omega (arith, fits, c.inputs-inputs.ensures.inputs, ap length c.cells.ensures.cells, ap length c.cells-2.ensures.cells, ap length c.outs.ensures.outs)

pub push_free_cells-requires-clause-fits : goal.push_free_cells-requires-clause-fits
push_free_cells-requires-clause-fits c =
    let fits = all_variables_fit c.args.spec.now c.args.imp.now c.cells-2.ensures.kept c.inputs-inputs.ensures.kept c.requires.comparable c.requires.few in
    omega (arith, fits, c.inputs-inputs.ensures.inputs)

pub push_free_cells-requires-2-clause-fits : goal.push_free_cells-requires-2-clause-fits
push_free_cells-requires-2-clause-fits c =
    let fits = all_variables_fit c.args.spec.now c.args.imp.now c.cells-2.ensures.kept c.inputs-inputs.ensures.kept c.requires.comparable c.requires.few in
    omega (arith, fits, c.inputs-inputs.ensures.inputs, ap length c.cells.ensures.cells)

pub push_differences-requires-clause-fits : goal.push_differences-requires-clause-fits
push_differences-requires-clause-fits c =
    let fits = all_variables_fit c.args.spec.now c.args.imp.now c.cells-2.ensures.kept c.inputs-inputs.ensures.kept c.requires.comparable c.requires.few in
    omega (arith, fits, c.inputs-inputs.ensures.inputs, ap length c.cells.ensures.cells, ap length c.cells-2.ensures.cells)

pub some_differs-requires-clause-fits : goal.some_differs-requires-clause-fits
some_differs-requires-clause-fits c =
    let fits = all_variables_fit c.args.spec.now c.args.imp.now c.cells-2.ensures.kept c.inputs-inputs.ensures.kept c.requires.comparable c.requires.few in
    omega (arith, fits, c.inputs-inputs.ensures.inputs, ap length c.cells.ensures.cells, ap length c.cells-2.ensures.cells)

pub invariant_of-result : goal.invariant_of-result
invariant_of-result c =
    let within = c.models_are_differences.ensures.within c.args.spec.now c.args.imp.now c.cells-2.ensures.kept c.inputs-inputs.ensures.kept c.requires.comparable in
    let clauses = free_pushed c.args.spec.now c.args.imp.now c.inputs-inputs.result _ (lists_of c.in_ok-clauses.clauses.items) (lists_of c.push_free_cells.new.clauses.items)
    (lists_of c.push_free_cells-2.new.clauses.items) (lists_of c.push_differences.new.clauses.items) (lists_of c.push.new.self.items) c.in_ok-some_differs.field-0.items
    (ap lists_of c.in_ok-clauses.ensures.items) c.inputs-inputs.ensures.inputs (ap₂ (λ m n. m + n) c.inputs-inputs.ensures.inputs (ap length c.cells.ensures.cells)) c.in_ok-push_free_cells.ensures
    c.in_ok-push_free_cells-2.ensures c.in_ok-push_differences.ensures
    (ap lists_of c.in_ok-push.ensures.items ∙ map-append (λ (clause : SmallVec Lit). clause.items) c.push_differences.new.clauses.items _) c.in_ok-some_differs.ensures in
    let vars = ap₂ (λ m n. m + n) (ap₂ (λ m n. m + n) (ap₂ (λ m n. m + n) c.inputs-inputs.ensures.inputs (ap length c.cells.ensures.cells)) (ap length c.cells-2.ensures.cells)) (ap length c.outs.ensures.outs) in
    subst (λ n. HasVariablesWithin n (lists_of c.push.new.self.items)) (sym vars) (subst (HasVariablesWithin _) (sym clauses) within)

pub returns-clause-cnf : goal.returns-clause-cnf
returns-clause-cnf c =
    let clauses = free_pushed c.args.spec.now c.args.imp.now c.inputs-inputs.result _ (lists_of c.in_ok-clauses.clauses.items) (lists_of c.push_free_cells.new.clauses.items)
    (lists_of c.push_free_cells-2.new.clauses.items) (lists_of c.push_differences.new.clauses.items) (lists_of c.push.new.self.items) c.in_ok-some_differs.field-0.items
    (ap lists_of c.in_ok-clauses.ensures.items) c.inputs-inputs.ensures.inputs (ap₂ (λ m n. m + n) c.inputs-inputs.ensures.inputs (ap length c.cells.ensures.cells)) c.in_ok-push_free_cells.ensures
    c.in_ok-push_free_cells-2.ensures c.in_ok-push_differences.ensures
    (ap lists_of c.in_ok-push.ensures.items ∙ map-append (λ (clause : SmallVec Lit). clause.items) c.push_differences.new.clauses.items _) c.in_ok-some_differs.ensures in
    let vars = ap₂ (λ m n. m + n) (ap₂ (λ m n. m + n) (ap₂ (λ m n. m + n) c.inputs-inputs.ensures.inputs (ap length c.cells.ensures.cells)) (ap length c.cells-2.ensures.cells)) (ap length c.outs.ensures.outs) in
    ap₂ formula vars clauses
