use Rattle.std.proofs.Common.{ap, ◌∙◌, arith}
use Rattle.std.specs.Prelude.{slice_get, slice_set}
use Rattle.std.proofs.lemmas.List.{length-map}
use Rattle.bb_elab.specs.Inside.Placings.{with_children}
use Rattle.bb_elab.proofs.ScopePlacing.{place_there, list_there, some_levels, fits, summarized_here, placing_starts, next_child, placing_goes, placing_ends, chosen, named_there, as_many}
use Rattle.bb_elab.proofs.scopes.+place_scope.Goals as goal

pub bounds-module_summaries-place : goal.bounds-module_summaries-place
bounds-module_summaries-place t c = let n = c.requires.next in place_there c.laws_of_designs.ensures n.0 _ _ _ _ _ _ n.1 n.2 n.3

pub bounds-called-place : goal.bounds-called-place
bounds-called-place t c = let n = c.requires.next in omega (arith, list_there c.laws_of_designs.ensures n.0 _ _ _ _ _ _ n.1 n.2 n.3, length-map c.args.called.now (λ list. list.items))

pub add_scope-requires-clause-fit : goal.add_scope-requires-clause-fit
add_scope-requires-clause-fit t c =
    let n = c.requires.next in
    (fits c.laws_of_designs.ensures n.0 _ _ _ _ _ _ n.1 n.2 n.3 c.index-module_summaries-place.result (summarized_here c.laws_of_designs.ensures n.0 _ _ _ _ _ _ n.1 n.2 n.3 c.index-module_summaries-place.result c.index-module_summaries-place.is)).1

pub loop-k-init : goal.loop-k-init
loop-k-init t c = λ d s rest next.
    let added = c.in_ok-number.ensures.scopes in
    placing_starts c.laws_of_designs.ensures d _ _ _ _ _ _ s rest next c.add_scope.new.placing c.index-module_summaries-place.result added.0 (summarized_here c.laws_of_designs.ensures d _ _ _ _ _ _ s rest next c.index-module_summaries-place.result c.index-module_summaries-place.is) added.1 c.in_ok-number.ensures.bits added.2
    c.in_ok-children.children.items c.in_ok-children.ensures.items

pub index-requires : goal.index-requires
index-requires t c =
    let n = c.requires.next in
    let summarized = summarized_here c.laws_of_designs.ensures n.0 _ _ _ _ _ _ n.1 n.2 n.3 c.index-module_summaries-place.result c.index-module_summaries-place.is in
    omega (arith, c.index-module_summaries-place.result.names.ok, named_there c.laws_of_designs.ensures n.0 c.args.called.now _ _ _ _ _ n.1 n.2 n.3 c.index-called-place.result c.index-called-place.is c.index-module_summaries-place.result summarized c.loop-k.k (omega (arith, c.loop-k-test.true, c.len-k-end.ensures, c.index-called-place.result.ok)))

pub overflow_sub-levels : goal.overflow_sub-levels
overflow_sub-levels t c = let n = c.requires.next in some_levels c.laws_of_designs.ensures n.0 _ _ _ _ _ _ n.1 n.2 n.3

pub place_scope-requires : goal.place_scope-requires
place_scope-requires t c =
    let n = c.requires.next in
    let summarized = summarized_here c.laws_of_designs.ensures n.0 _ _ _ _ _ _ n.1 n.2 n.3 c.index-module_summaries-place.result c.index-module_summaries-place.is in
    let i = chosen c.laws_of_designs.ensures n.0 c.args.called.now _ _ _ _ _ n.1 n.2 n.3 c.index-called-place.result c.index-called-place.is c.index-module_summaries-place.result summarized c.loop-k.k (omega (arith, c.loop-k-test.true, c.len-k-end.ensures, c.index-called-place.result.ok))
    c.index-in-loop-k.result.now c.index-in-loop-k.ensures c.index.result.now c.in_ok-clone.field-0 c.index.ensures c.in_ok-clone.ensures.cases in
    let some = some_levels c.laws_of_designs.ensures n.0 _ _ _ _ _ _ n.1 n.2 n.3 in (
      omega (arith, c.decreases, some),
      (n.0, _, _, next_child c.laws_of_designs.ensures n.0 _ _ c.args.placing.now _ _ _ n.1 n.2 n.3 c.loop-k.placing c.loop-k.children.items c.loop-k.k (c.loop-k.invariant n.0 n.1 n.2 n.3) i.0 i.1 c.in_ok-number.number c.index-in-loop-k.result.now c.in_ok-clone.field-0 c.in_ok-number.ensures.number i.2 i.3),
    )

pub loop-k-preserved : goal.loop-k-preserved
loop-k-preserved t c = λ d s rest next.
    let summarized = summarized_here c.laws_of_designs.ensures d _ _ _ _ _ _ s rest next c.index-module_summaries-place.result c.index-module_summaries-place.is in
    let i = chosen c.laws_of_designs.ensures d c.args.called.now _ _ _ _ _ s rest next c.index-called-place.result c.index-called-place.is c.index-module_summaries-place.result summarized c.loop-k.k (omega (arith, c.loop-k-test.true, c.len-k-end.ensures, c.index-called-place.result.ok))
    c.index-in-loop-k.result.now c.index-in-loop-k.ensures c.index.result.now c.in_ok-clone.field-0 c.index.ensures c.in_ok-clone.ensures.cases in
    let placing = c.loop-k.invariant d s rest next in
    placing_goes c.laws_of_designs.ensures d _ _ c.args.placing.now _ _ _ s rest next c.loop-k.placing c.loop-k.children.items c.loop-k.k placing i.0 i.1 c.place_scope.new.placing c.in_ok-child.child c.push.new.self.items
    (c.in_ok-child.ensures.placed d _ _ (next_child c.laws_of_designs.ensures d _ _ c.args.placing.now _ _ _ s rest next c.loop-k.placing c.loop-k.children.items c.loop-k.k placing i.0 i.1 c.in_ok-number.number c.index-in-loop-k.result.now c.in_ok-clone.field-0 c.in_ok-number.ensures.number i.2 i.3))
    c.in_ok-push.ensures.items

pub returns : goal.returns
returns t c = record {
  placed = λ d s rest next.
      let long = as_many c.laws_of_designs.ensures d c.args.called.now _ _ _ _ _ s rest next c.index-called-place.result c.index-called-place.is in
      placing_ends c.laws_of_designs.ensures d _ _ c.args.placing.now _ _ _ s rest next c.loop-k.placing c.set_children.new.placing c.loop-k.children c.loop-k.k (c.loop-k.invariant d s rest next)
      (omega (arith, c.loop-k-test.false, c.loop-k.auto.k-end, c.len-k-end.ensures, c.index-called-place.result.ok, long))
      (λ p at. c.set_children.ensures.set p (ap (slice_get c.loop-k.placing.scopes.items) c.in_ok-number.ensures.number ∙ at) ∙ ap (λ k. slice_set c.loop-k.placing.scopes.items k (with_children c.loop-k.children p)) c.in_ok-number.ensures.number)
      c.set_children.ensures.bits c.in_ok-number.number c.in_ok-number.ensures.number;
}
