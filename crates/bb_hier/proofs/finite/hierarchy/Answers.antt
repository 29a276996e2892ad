use Rattle.std.proofs.Common.{[], inr, map, refl, subst}
use Rattle.std.specs.Prelude.{IfSome, IfNone}
use Rattle.bb_names.specs.Inside.Checked.{syntax}
use Rattle.bb_design.specs.Refusals.{Recursion, Depth, Size, IsReportedOfDesign, IsAbsentInDesign, design_on}
use Rattle.bb_hier.specs.Inside.Finite.{AtTop}
use Rattle.bb_hier.proofs.StageRefusals.{finite}
use Rattle.bb_hier.proofs.finite.hierarchy.Goals as goal

pub returns-in-Some-clause-fault : goal.returns-in-Some-clause-fault
returns-in-Some-clause-fault c = inr (λ t at.
    let d = design_on (map syntax c.args.checked.now) t in
    let reported = subst (λ o. IfSome o (λ n. AtTop (map syntax c.args.checked.now) c.args.top (λ d. IsReportedOfDesign d Recursion n))) c.in-Some.is c.in_ok-name.ensures.some in
    (c.laws_of_designs.ensures.causes d).refused Recursion _ (record { name = c.in-Some.name; is = refl; reported = reported t at }) ((c.laws_of_designs.ensures.causes d).first))

pub returns-in-Some-2-clause-fault : goal.returns-in-Some-2-clause-fault
returns-in-Some-2-clause-fault c = inr (λ t at.
    let d = design_on (map syntax c.args.checked.now) t in
    let flat = subst (λ o. IfNone o (AtTop (map syntax c.args.checked.now) c.args.top (λ d. IsAbsentInDesign d Recursion))) c.in_default.is c.in_ok-name.ensures.none in
    let reported = subst (λ o. IfSome o (λ n. AtTop (map syntax c.args.checked.now) c.args.top (λ d. IsReportedOfDesign d Depth n))) c.in-Some-2.is c.in_ok-name-2.ensures.some in
    (c.laws_of_designs.ensures.causes d).refused Depth _ (record { name = c.in-Some-2.name; is = refl; reported = reported t at }) ((c.laws_of_designs.ensures.causes d).next Recursion ((c.laws_of_designs.ensures.causes d).first) (flat t at)))

pub returns-then-branch-clause-fault : goal.returns-then-branch-clause-fault
returns-then-branch-clause-fault c = inr (λ t at.
    let d = design_on (map syntax c.args.checked.now) t in
    let flat = subst (λ o. IfNone o (AtTop (map syntax c.args.checked.now) c.args.top (λ d. IsAbsentInDesign d Recursion))) c.in_default.is c.in_ok-name.ensures.none in
    let shallow = subst (λ o. IfNone o (AtTop (map syntax c.args.checked.now) c.args.top (λ d. IsAbsentInDesign d Depth))) c.in_default-2.is c.in_ok-name-2.ensures.none in
    (c.laws_of_designs.ensures.causes d).refused Size _ (record { name = []; is = refl; reported = c.in_ok-is_too_large.ensures.large c.if-branch.true t at }) ((c.laws_of_designs.ensures.causes d).next Depth ((c.laws_of_designs.ensures.causes d).next Recursion ((c.laws_of_designs.ensures.causes d).first) (flat t at)) (shallow t at)))

pub returns-clause-finite : goal.returns-clause-finite
returns-clause-finite c =
    let text = map syntax c.args.checked.now in
    let flat = subst (λ o. IfNone o (AtTop text c.args.top (λ d. IsAbsentInDesign d Recursion))) c.in_default.is c.in_ok-name.ensures.none in
    let shallow = subst (λ o. IfNone o (AtTop text c.args.top (λ d. IsAbsentInDesign d Depth))) c.in_default-2.is c.in_ok-name-2.ensures.none in
    finite text c.args.top c.modules-modules.ensures.checked.read.formed c.modules-modules.ensures.checked.sound flat shallow (c.in_ok-is_too_large.ensures.small c.if-branch.false)
