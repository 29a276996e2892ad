use Rattle.std.proofs.Common.{◌≡◌, ℕ, List, [], Option, Some, None, length, map, refl, sym, ap, ◌∙◌, subst}
use Rattle.std.specs.Prelude.{All, option_map, option_to_list, slice_get}
use Rattle.std.specs.List.{AllZip}
use Rattle.std.proofs.lemmas.Option.{slice_get-map, slice_get_read, slice_get_past}
use Rattle.std.proofs.lemmas.Result.{IfOk-weaker}
use Rattle.bb_ast.specs.declared.module.Head.{Head}
use Rattle.bb_ast.specs.Syntax.{PlainModule}
use Rattle.bb_ast.specs.Inside.Views.{head_view, optional_view}
use Rattle.bb_names.specs.Inside.Checked.{module_facts, syntax}
use Rattle.bb_names.specs.Sites.{Pin, pin_named, pin_at}
use Rattle.bb_design.specs.Constructs.{connection}
use Rattle.bb_blast.specs.Inside.BitBlasting.{module_in, IsMakeable, IsPartAt}
use Rattle.bb_lemmas.proofs.Places.{got-map}
use Rattle.bb_blast.proofs.Connections.{pin-at, pin-past}
use Rattle.bb_blast.proofs.calling.ordered.Goals as goal

-- the port at a place
head-at : (m n : PlainModule) (heads : List Head) (k : ℕ) (head : Head) → m ≡ n → n.heads ≡ map head_view heads → slice_get heads k ≡ Some head → pin_at m k ≡ pin_named m head.name
head-at m n heads k head meant are there =
    pin-at m k (head_view head) (ap (λ (m : PlainModule). slice_get m.heads k) meant ∙ ap (λ l. slice_get l k) are ∙ got-map head_view heads k head there)

pub connected-requires-clause-makeable : goal.connected-requires-clause-makeable
connected-requires-clause-makeable c =
    let m = module_in c.args.context.checked.now c.args.inner.target in
    let head : pin_at m c.args.number ≡ pin_named m c.in-Some.head.now.name = head-at (module_in c.args.context.checked.now c.args.inner.target) (syntax (module_facts c.scope_at.result.now)) c.deref.result.now c.args.number c.in-Some.head.now c.scope_at.ensures.meant (ap (map head_view) (sym c.deref.ensures.value)) (slice_get_read c.deref.result.now (length c.deref.result.now) c.args.number c.in-Some.head.now refl c.in-Some.ensures.lookup.3.0 c.in-Some.ensures.lookup.1) in
    (c.requires.makeable.0, subst (λ (p : Option Pin). All (IsMakeable c.args.context.checked.now c.args.context.module) (connection c.requires.makeable.0 p (optional_view c.args.place.now))) head c.requires.makeable.1)

pub returns-in-Some : goal.returns-in-Some
returns-in-Some c = record {
  part = λ called is. IfOk-weaker _ _ _ (λ part occurs. subst (λ (p : Option Pin). AllZip (IsPartAt c.args.context.checked.now c.args.context.module) (option_to_list part) (connection called.name p (optional_view c.args.place.now))) (sym (head-at (module_in c.args.context.checked.now c.args.inner.target) (syntax (module_facts c.scope_at.result.now)) c.deref.result.now c.args.number c.in-Some.head.now c.scope_at.ensures.meant (ap (map head_view) (sym c.deref.ensures.value)) (slice_get_read c.deref.result.now (length c.deref.result.now) c.args.number c.in-Some.head.now refl c.in-Some.ensures.lookup.3.0 c.in-Some.ensures.lookup.1))) occurs) (c.connected.ensures.part called is);
}

pub returns-in-None : goal.returns-in-None
returns-in-None c =
    let m = module_in c.args.context.checked.now c.args.inner.target in
    let past : slice_get m.heads c.args.number ≡ None =
    ap (λ (m : PlainModule). slice_get m.heads c.args.number) c.scope_at.ensures.meant ∙ ap (λ l. slice_get (map head_view l) c.args.number) (sym c.deref.ensures.value) ∙ slice_get-map head_view c.deref.result.now c.args.number
    ∙ ap (option_map head_view) (slice_get_past c.deref.result.now c.args.number c.in-None.ensures.lookup.3) in
    record { part = λ called is. subst (λ (p : Option Pin). AllZip (IsPartAt c.args.context.checked.now c.args.context.module) [] (connection called.name p (optional_view c.args.place.now))) (sym (pin-past m c.args.number past)) tt }
