use Rattle.std.proofs.Common.{Option, subst}
use Rattle.std.specs.Prelude.{IfSome, IfNone}
use Rattle.bb_net.specs.Conditions.{AllRightTogether, AlwaysSomeWrongAt}
use Rattle.bb_sym.specs.declared.found.Found.{Found}
use Rattle.bb_sym.specs.Finds.{FindsVector}
use Rattle.bb_miter.proofs.Boxless.{few_variables, differs, equivalent}
use Rattle.bb_miter.proofs.diagrams.difference.Goals as goal

pub output_of-requires-clause-few : goal.output_of-requires-clause-few
output_of-requires-clause-few c = few_variables c.args.imp.now c.requires.comparable.imp_boxes c.requires.comparable.few

pub returns-in-Some-clause-found : goal.returns-in-Some-clause-found
returns-in-Some-clause-found c =
    let spec = c.args.spec.now in
    let imp = c.args.imp.now in
    let here = subst (λ (answer : Option Found). IfSome answer (FindsVector imp (AlwaysSomeWrongAt spec imp))) c.in-Some.is c.in_ok-answer.ensures.found in
    differs spec imp c.requires.comparable.imp_boxes c.in-Some.found.input.items here.1

pub returns-in-None-clause-none : goal.returns-in-None-clause-none
returns-in-None-clause-none c =
    let spec = c.args.spec.now in
    let imp = c.args.imp.now in
    equivalent spec imp c.requires.comparable.imp_boxes (subst (λ (answer : Option Found). IfNone answer (AllRightTogether spec imp)) c.in-None.is c.in_ok-answer.ensures.none)
