use Rattle.std.proofs.Common.{◌+◌, length, take, refl, sym, ap, ◌∙◌, subst}
use Rattle.std.specs.List.{AllZip, filter}
use Rattle.std.proofs.lemmas.Option.{slice_get_read}
use Rattle.bb_design.specs.Hierarchy.{scopes, is_box}
use Rattle.bb_blast.specs.Inside.Placements.{IsScopeAt}
use Rattle.bb_elab.proofs.NamedBits.{boxed_kept, boxed_left}
use Rattle.bb_elab.proofs.box_names.boxed_scopes.Goals.{then-at+in_ok-push, else-at}
use Rattle.bb_elab.proofs.box_names.boxed_scopes.Goals as goal

pub loop-scope-preserved : goal.loop-scope-preserved
loop-scope-preserved c = λ d are.
    let all = c.args.placed.now in
    let p = c.index-placed-scope.result in
    let at = slice_get_read all (length all) c.loop-scope.scope p refl c.loop-scope-test.true c.index-placed-scope.is in
    elim c.if-at.branch [
      | then-at+in_ok-push w ↦ boxed_kept d all are c.loop-scope.scope p at c.loop-scope.boxed.items (c.loop-scope.invariant d are) w.if-at.true c.if-at.boxed.items (ap (λ v. v.items) w.boxed-is ∙ w.in_ok-push.ensures.items)
      | else-at w ↦ subst (λ l. AllZip (IsScopeAt d) l (filter is_box (take (c.loop-scope.scope + 1) (scopes d)))) (sym (ap (λ v. v.items) w.boxed-is)) (boxed_left d all are c.loop-scope.scope p at c.loop-scope.boxed.items (c.loop-scope.invariant d are) w.if-at.false)
    ]
