use Rattle.std.proofs.Common.{◌≡◌, ◌≤◌, ◌-◌, false, map, take, drop, length, unwrap_or, subst, sym, ◌∙◌, ap, arith, length-drop}
use Rattle.std.proofs.lemmas.List.{take_all}
use Rattle.bb_cnf.specs.Truth.{assignment_of, Satisfies}
use Rattle.bb_cdcl.proofs.Started.{model_satisfies}
use Rattle.bb_cdcl.proofs.start.model.Goals as goal

pub returns-clause-satisfies : goal.returns-clause-satisfies
returns-clause-satisfies c clauses within all =
    let rest = drop 1 c.args.values.now in
    let count : length rest ≤ length c.args.values.now - 1 = (let l = length-drop 1 c.args.values.now in omega (arith, l)) in
    let whole : take (length c.args.values.now - 1) rest ≡ rest = take_all _ rest count in
    let e : c.loop-value.bits.items ≡ map (λ o. unwrap_or o false) rest =
    c.loop-value.invariant ∙ ap (map (λ o. unwrap_or o false)) (take_all c.loop-value.value-index _ c.loop-value-test.false ∙ whole) in
    subst (λ bits. Satisfies (assignment_of bits) clauses) (sym e) (model_satisfies c.args.values.now clauses within all)
