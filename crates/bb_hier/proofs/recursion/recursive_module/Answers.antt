use Rattle.std.proofs.Common.{◌≡◌, ◌<◌, Some, map, length, refl, subst, sym, ap, ◌∙◌, arith}
use Rattle.std.specs.Prelude.{slice_get, IfSome, IfNone}
use Rattle.std.proofs.lemmas.List.{length-map}
use Rattle.std.proofs.lemmas.Option.{slice_get_read}
use Rattle.bb_ast.specs.Inside.Views.{module_view}
use Rattle.bb_names.specs.declared.checked.CheckedModule.{CheckedModule}
use Rattle.bb_names.specs.Inside.Checked.{module_facts, syntax}
use Rattle.bb_design.specs.Inside.Callees.{callees}
use Rattle.bb_hier.specs.Inside.Recursions.{ArePlacesThere, IsRecursiveAt, IsFirstRecursive}
use Rattle.bb_design.specs.Refusals.{Recursion, IsReportedOfDesign, design_on}
use Rattle.bb_lemmas.proofs.Places.{got-map}
use Rattle.bb_hier.proofs.RecursiveNames.{places_there, absent_where_none, reported_where_first}
use Rattle.bb_hier.proofs.recursion.recursive_module.Goals as goal

pub first_recursive-requires-clause-there : goal.first_recursive-requires-clause-there
first_recursive-requires-clause-there c =
    subst ArePlacesThere (sym c.requires.called) (places_there (map syntax c.args.checked.now) c.modules-modules.ensures.checked.read.small)

pub returns-in-None-clause-none : goal.returns-in-None-clause-none
returns-in-None-clause-none c = λ t at.
    let none = subst (λ o. IfNone o ((k : _) → IsRecursiveAt (map (λ list. list.items) c.args.called.now) c.args.top k → ⊥)) c.in-None.is c.in_ok-place.ensures.none in
    absent_where_none c.laws_of_designs.ensures (map syntax c.args.checked.now) c.modules-modules.ensures.checked.sound c.args.top t at (subst (λ lists. (k : _) → IsRecursiveAt lists c.args.top k → ⊥) c.requires.called none)

pub returns-in_ok-clone-in-Some-clause-some : goal.returns-in_ok-clone-in-Some-clause-some
returns-in_ok-clone-in-Some-clause-some c = λ t at.
    let first = subst (λ o. IfSome o (IsFirstRecursive (map (λ list. list.items) c.args.called.now) c.args.top)) c.in-Some.is c.in_ok-place.ensures.some in
    let text = map syntax c.args.checked.now in
    let modules = c.modules-modules.result.now in
    let long : length modules ≡ length text = sym (length-map modules module_facts) ∙ ap length c.modules-modules.ensures.modules ∙ sym (length-map c.args.checked.now syntax) in
    let within : c.in-Some.place < length modules = omega (arith, first.there, ap length c.requires.called, length-map text (callees text), long) in
    let got : slice_get modules c.in-Some.place ≡ Some c.index-modules-place.result = slice_get_read modules (length modules) c.in-Some.place c.index-modules-place.result refl within c.index-modules-place.is in
    let here : slice_get text c.in-Some.place ≡ Some (module_view c.index-modules-place.result.module) =
    ap (λ facts. slice_get (map syntax facts) c.in-Some.place) (sym c.modules-modules.ensures.modules)
    ∙ got-map syntax (map module_facts modules) c.in-Some.place (module_facts c.index-modules-place.result) (got-map module_facts modules c.in-Some.place c.index-modules-place.result got) in
    subst (λ n. IsReportedOfDesign (design_on text t) Recursion n) (sym (c.in_ok-clone-in-Some.ensures.cases ∙ ap (λ (x : CheckedModule). x.module.name) (sym c.index-modules-place.is)))
    (reported_where_first c.laws_of_designs.ensures text c.modules-modules.ensures.checked.sound c.args.top t at c.in-Some.place (module_view c.index-modules-place.result.module) here
    (subst (λ lists. IsFirstRecursive lists c.args.top c.in-Some.place) c.requires.called first))
