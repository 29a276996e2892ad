use Rattle.std.proofs.Common.{◌≡◌, ◌+◌, ◌-◌, ◌<◌, ℕ, map, subst, sym, ap, ◌∙◌, arith, length}
use Rattle.std.proofs.lemmas.List.{length-map}
use Rattle.bb_net.specs.Loose.{LooseList, IsLoose, IsLeastOnClosedWalk, IsOnClosedWalk}
use Rattle.bb_net.specs.declared.ordering.NetFault.TheVariants.{Loop}
use Rattle.bb_net.specs.Inside.NetFaults.{IsFaultOf}
use Rattle.bb_net.specs.Netlists.{IsNetlist}
use Rattle.bb_hier.specs.Inside.Recursions.{ArePlacesThere, IsFirstRecursive, module_list}
use Rattle.bb_hier.proofs.ModuleCells.{modules_are_loose, cells_long}
use Rattle.bb_hier.proofs.RecursionLemmas.{kept_loose, marked_places, none_recursive, first_recursive_at, kept_there}
use Rattle.bb_hier.proofs.recursion.first_recursive.Goals as goal

pub dependences-requires-clause-list : goal.dependences-requires-clause-list
dependences-requires-clause-list c = subst IsLoose (sym c.in_ok-modules_as_cells.ensures.list) (modules_are_loose _ c.requires.there)

pub dependences-requires-clause-there : goal.dependences-requires-clause-there
dependences-requires-clause-there c =
    subst (λ (l : LooseList). c.args.top + 2 < length l.cells) (sym c.in_ok-modules_as_cells.ensures.list)
    (omega (arith, c.requires.top, cells_long (map (λ list. list.items) c.args.callees.now), length-map c.args.callees.now (λ list. list.items)))

pub forget_unmarked-requires : goal.forget_unmarked-requires
forget_unmarked-requires c =
    let lists = map (λ list. list.items) c.args.callees.now in
    let cells = ap (λ (l : LooseList). length l.cells) c.in_ok-modules_as_cells.ensures.list ∙ cells_long lists in
    let long = c.in_ok-marks.ensures.whole ∙ cells in
    record { marks = omega (arith, ap length c.deref.ensures.value, long, length-map c.args.callees.now (λ list. list.items)) }

pub modules_as_cells-requires-2 : goal.modules_as_cells-requires-2
modules_as_cells-requires-2 c = record { there = subst ArePlacesThere (sym c.forget_unmarked.ensures.kept) (kept_there _ c.args.top c.deref.result.now c.requires.there) }

pub order-requires : goal.order-requires
order-requires c =
    kept_loose _ c.args.top c.deref.result.now _ c.in_ok-list.list c.requires.there c.forget_unmarked.ensures.kept c.in_ok-list.ensures.list

pub returns-in-Ok-clause-none : goal.returns-in-Ok-clause-none
returns-in-Ok-clause-none c =
    let list = c.in_ok-list.ensures.list ∙ ap module_list c.forget_unmarked.ensures.kept in
    none_recursive (map (λ list. list.items) c.args.callees.now) c.args.top c.deref.result.now
    (marked_places _ c.args.top c.in_ok-modules_as_cells.field-0 c.deref.result.now c.in_ok-marks.marks.items c.in_ok-modules_as_cells.ensures.list c.deref.ensures.value c.in_ok-marks.ensures.ok)
    (subst (λ (l : LooseList). (k : ℕ) → IsOnClosedWalk l k → ⊥) list (c.order_has_no_walk.ensures c.in_ok-list.list c.in-Ok._ordered.net c.in-Ok._ordered.boxes.items
    (kept_loose _ c.args.top c.deref.result.now _ c.in_ok-list.list c.requires.there c.forget_unmarked.ensures.kept c.in_ok-list.ensures.list) (subst IsNetlist c.drop.view_is c.drop.invariant) c.in-Ok.ensures.ok))

pub returns-in-Err-Loop-clause-some : goal.returns-in-Err-Loop-clause-some
returns-in-Err-Loop-clause-some c =
    let list = c.in_ok-list.ensures.list ∙ ap module_list c.forget_unmarked.ensures.kept in
    let lists = map (λ list. list.items) c.args.callees.now in
    let fault : IsFaultOf c.in_ok-list.list (Loop c.in-Err-Loop.place) = subst (IsFaultOf c.in_ok-list.list) c.in-Err-Loop.field-0-is c.in-Err-Loop.ensures.err in
    let found = first_recursive_at lists c.args.top c.deref.result.now
    (marked_places _ c.args.top c.in_ok-modules_as_cells.field-0 c.deref.result.now c.in_ok-marks.marks.items c.in_ok-modules_as_cells.ensures.list c.deref.ensures.value c.in_ok-marks.ensures.ok)
    c.in-Err-Loop.place (subst (λ (l : LooseList). IsLeastOnClosedWalk l c.in-Err-Loop.place) list fault) in
    let at : found.0 ≡ c.in-Err-Loop.place - 2 = omega (arith, found.1) in
    subst (IsFirstRecursive lists c.args.top) at found.2
