use Rattle.bb_blast.specs.declared.template.Part.{Part}
use Rattle.std.proofs.Common.{◌≡◌, List, ◌++◌, [], ◌∷◌, sym, ap, subst}
use Rattle.std.specs.Prelude.{All}
use Rattle.std.specs.List.{AllZip}
use Rattle.std.proofs.lemmas.List.Elements.{All-head}
use Rattle.bb_ast.specs.Syntax.{Net}
use Rattle.bb_ast.specs.Inside.Views.{expression, optional_view, named_view}
use Rattle.bb_design.specs.Constructs.{Assignment, initial_construct}
use Rattle.bb_blast.specs.Inside.BitBlasting.{IsMakeable, IsPartAt}
use Rattle.bb_lemmas.proofs.Turns.{zip_both}
use Rattle.bb_blast.proofs.assigning.add_declared.Goals as goal

pub declared_assignment-requires-clause-makeable : goal.declared_assignment-requires-clause-makeable
declared_assignment-requires-clause-makeable c =
    let makeable = IsMakeable c.args.context.checked.now c.args.context.module in
    let one = Assignment (Net c.args.net.now.0) (expression c.in-Some.right) in
    let here : initial_construct (named_view c.args.net.now) ≡ one ∷ [] = ap (λ o. initial_construct (c.args.net.now.0, optional_view o)) c.in-Some.is in
    All-head makeable one [] (subst (All makeable) here c.requires.makeable)

pub returns-in_ok-push : goal.returns-in_ok-push
returns-in_ok-push c =
    let r = IsPartAt c.args.context.checked.now c.args.context.module in
    let one = Assignment (Net c.args.net.now.0) (expression c.in-Some.right) in
    let here : initial_construct (named_view c.args.net.now) ≡ one ∷ [] = ap (λ o. initial_construct (c.args.net.now.0, optional_view o)) c.in-Some.is in
    record {
      parts = λ before all. subst (λ l. AllZip r c.push.new.self.items (before ++ l)) (sym here) (subst (λ l. AllZip r l (before ++ one ∷ [])) (sym {A = List Part} c.in_ok-push.ensures.items)
          (zip_both r c.args.parts.now.items before (c.in_ok-declared_assignment.field-0 ∷ []) (one ∷ []) all (c.in_ok-declared_assignment.ensures.part, tt)));
    }
