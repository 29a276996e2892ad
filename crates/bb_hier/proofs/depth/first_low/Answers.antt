use Rattle.std.proofs.Common.{◌≡◌, ◌<◌, ◌++◌, List, All, Some, refl, map, length, subst, sym, ap, ◌∙◌, arith}
use Rattle.std.proofs.lemmas.List.{length-map}
use Rattle.std.specs.Prelude.{slice_get, IfSome}
use Rattle.std.specs.List.{flat_map}
use Rattle.std.proofs.lemmas.Option.{slice_get_read}
use Rattle.std.proofs.lemmas.Result.{IfOk-weaker}
use Rattle.bb_ast.specs.declared.module.Item.{Item}
use Rattle.bb_ast.specs.Syntax.{PlainItem}
use Rattle.bb_ast.specs.Inside.Views.{item_view, module_view}
use Rattle.bb_names.specs.declared.checked.CheckedModule.{CheckedModule}
use Rattle.bb_names.specs.Inside.Checked.{module_facts, syntax}
use Rattle.bb_design.specs.Inside.Callees.{callees}
use Rattle.bb_hier.specs.Inside.Depths.{is_tall}
use Rattle.bb_design.specs.Hierarchy.{Instance, instances_in}
use Rattle.bb_lemmas.proofs.Places.{got-map, list_here}
use Rattle.bb_hier.proofs.DepthHeights.{callees_fit}
use Rattle.bb_hier.proofs.DepthWalks.{way_starts, way_steps, way_ends, way_there, some_goes_on, occurs_in}
use Rattle.bb_hier.proofs.RecursiveNames.{all_there}
use Rattle.bb_hier.proofs.depth.first_low.Goals as goal

pub loop-level-init : goal.loop-level-init
loop-level-init c = way_starts (map syntax c.args.checked.now) c.args.top (omega (arith, c.requires.top, length-map c.args.checked.now syntax))
    (ap (λ lists. is_tall lists 64 c.args.top) (sym c.requires.called) ∙ sym (c.requires.tall c.args.top 64 (omega arith)) ∙ c.requires.low) c.new-path.result.items c.new-path.ensures.items

pub first_tall-next-requires-clause-there : goal.first_tall-next-requires-clause-there
first_tall-next-requires-clause-there c =
    let text = map syntax c.args.checked.now in
    let many : length text ≡ length c.args.called.now = omega (arith, ap length c.requires.called, length-map c.args.called.now (λ list. list.items), length-map text (callees text)) in
    let lt : c.loop-level.place < length c.args.called.now = omega (arith, many, way_there text c.args.top c.loop-level.level c.loop-level.place c.loop-level.path.items c.loop-level.invariant) in
    let long : length text ≡ length c.args.heights.now = omega (arith, many, c.requires.long) in
    callees_fit (length c.args.heights.now) c.args.called.now c.loop-level.place c.index-called-place.result c.deref.result.now
    (subst (λ n. All (All (λ k. k < n)) (map (λ list. list.items) c.args.called.now)) long (subst (All (All (λ k. k < length text))) (sym c.requires.called) (all_there text))) lt c.index-called-place.is c.deref.ensures.value

pub first_tall-next-requires-clause-some : goal.first_tall-next-requires-clause-some
first_tall-next-requires-clause-some c =
    let text = map syntax c.args.checked.now in
    let many : length text ≡ length c.args.called.now = omega (arith, ap length c.requires.called, length-map c.args.called.now (λ list. list.items), length-map text (callees text)) in
    let lt : c.loop-level.place < length c.args.called.now = omega (arith, many, way_there text c.args.top c.loop-level.level c.loop-level.place c.loop-level.path.items c.loop-level.invariant) in
    some_goes_on text c.args.heights.now (λ k n le. c.requires.tall k n le ∙ ap (λ lists. is_tall lists n k) c.requires.called) c.args.top c.loop-level.level c.loop-level.place c.loop-level.path.items c.loop-level.invariant c.loop-level-test.true
    c.deref.result.now (list_here c.args.called.now c.loop-level.place c.index-called-place.result c.deref.result.now _ c.requires.called lt c.index-called-place.is c.deref.ensures.value)

pub loop-level-preserved : goal.loop-level-preserved
loop-level-preserved c =
    let text = map syntax c.args.checked.now in
    let modules = c.modules-modules.result.now in
    let many : length text ≡ length c.args.called.now = omega (arith, ap length c.requires.called, length-map c.args.called.now (λ list. list.items), length-map text (callees text)) in
    let lt : c.loop-level.place < length c.args.called.now = omega (arith, many, way_there text c.args.top c.loop-level.level c.loop-level.place c.loop-level.path.items c.loop-level.invariant) in
    let long : length modules ≡ length text = sym (length-map modules module_facts) ∙ ap length c.modules-modules.ensures.modules ∙ sym (length-map c.args.checked.now syntax) in
    let list = list_here c.args.called.now c.loop-level.place c.index-called-place.result c.deref.result.now _ c.requires.called lt c.index-called-place.is c.deref.ensures.value in
    let found : slice_get modules c.loop-level.place ≡ Some c.index-modules-place.result = slice_get_read modules (length modules) c.loop-level.place c.index-modules-place.result refl (omega (arith, lt, many, long)) c.index-modules-place.is in
    let here : slice_get text c.loop-level.place ≡ Some (module_view c.index-modules-place.result.module) =
    ap (λ facts. slice_get (map syntax facts) c.loop-level.place) (sym c.modules-modules.ensures.modules)
    ∙ got-map syntax (map module_facts modules) c.loop-level.place (module_facts c.index-modules-place.result) (got-map module_facts modules c.loop-level.place c.index-modules-place.result found) in
    way_steps c.laws_of_designs.ensures text c.modules-modules.ensures.checked.sound c.args.heights.now (λ k n le. c.requires.tall k n le ∙ ap (λ lists. is_tall lists n k) c.requires.called) c.args.top c.loop-level.level c.loop-level.place c.loop-level.path.items c.loop-level.invariant
    (module_view c.index-modules-place.result.module) here c.loop-level-test.true c.deref.result.now list
    c.first_tall-next.result c.first_tall-next.ensures.within c.first_tall-next.ensures.tall c.first_tall-next.ensures.first c.add_dot.new.path.items c.add_name.new.path.items c.in_ok-add_dot.ensures.ok
    (subst (λ (items : List Item). IfSome (slice_get (flat_map (λ (item : PlainItem). instances_in item.body) (map item_view items)) c.first_tall-next.result) (λ (i : Instance). c.add_name.new.path.items ≡ c.add_dot.new.path.items ++ i.name))
    (c.deref-in-loop-level.ensures.value ∙ ap (λ (x : CheckedModule). x.module.items.items) (sym c.index-modules-place.is)) c.in_ok-add_name.ensures.ok)
    c.index-place.result.now (occurs_in c.args.called.now c.loop-level.place c.index-called-place-in-loop-level.result c.deref.result.now _ c.requires.called lt c.index-called-place-in-loop-level.is list c.first_tall-next.result c.index-place.result.now
    c.first_tall-next.ensures.within c.index-place.ensures)

pub returns : goal.returns
returns c = record {
  reported = IfOk-weaker _ _ _ (λ name copy. way_ends c.laws_of_designs.ensures (map syntax c.args.checked.now) c.args.top c.loop-level.level c.loop-level.place c.loop-level.path.items name c.loop-level.invariant (omega (arith, c.loop-level-test.false, c.loop-level.auto.level-end)) (copy ∙ c.deref-2.ensures.value)) c.of.ensures.ok;
}
