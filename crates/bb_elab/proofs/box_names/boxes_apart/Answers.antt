use Rattle.std.proofs.Common.{sym, subst}
use Rattle.std.specs.List.{AllZip}
use Rattle.bb_design.specs.Hierarchy.{boxes}
use Rattle.bb_blast.specs.Inside.Placements.{IsScopeAt, ArePlaced}
use Rattle.bb_elab.proofs.NamedBits.{scopes_within}
use Rattle.bb_elab.proofs.box_names.boxes_apart.Goals as goal

pub path_names-requires-clause-there : goal.path_names-requires-clause-there
path_names-requires-clause-there c =
    let given = c.requires.design in
    let d = given.0 in
    let are = subst (ArePlaced d) (sym c.deref.ensures.value) given.1.elaborated.scopes in
    let boxed = subst (λ l. AllZip (IsScopeAt d) l (boxes d)) (sym c.deref-3.ensures.value) (c.in_ok-boxed.ensures.boxed d are) in
    scopes_within d c.deref-2.result.now (subst (ArePlaced d) (sym c.deref-2.ensures.value) given.1.elaborated.scopes) c.deref-3.result.now (boxes d) boxed
