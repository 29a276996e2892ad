use Rattle.std.proofs.Common.{◌≡◌, ◌⊎◌, map}
use Rattle.bb_names.specs.Inside.Checked.{syntax}
use Rattle.bb_design.specs.declared.fault.ElabFault.TheVariants.{NoMemory}
use Rattle.bb_design.specs.Hierarchy.{Design}
use Rattle.bb_design.specs.Refusals.{IsRefusalOf}
use Rattle.bb_elab.specs.Inside.Stages.{IsElaborated}
use Rattle.bb_elab.proofs.LevelizedLists.{for_list, listed_at, first_undriven_cause, first_loop_cause, reported_on, if_err}
use Rattle.bb_elab.proofs.levelizing.arrange.Goals as goal

pub list_cells-requires : goal.list_cells-requires
list_cells-requires c = record { design = for_list (map syntax c.args.checked.now) c.args.elaborated.now c.deref.result.now c.deref-2.result.now c.deref-3.result.now c.deref.ensures.value c.deref-2.ensures.value c.deref-3.ensures.value c.requires.design }

pub drive_all-requires : goal.drive_all-requires
drive_all-requires c =
    let text = map syntax c.args.checked.now in
    let g = c.args.elaborated.now in
    let at = listed_at text g c.deref.result.now c.deref-2.result.now c.deref-3.result.now c.deref.ensures.value c.deref-2.ensures.value c.deref-3.ensures.value c.in_ok-list.list c.in_ok-list.ensures.list in
    record { design = (c.requires.design.0, c.requires.design.1, at c.requires.design.0 c.requires.design.1) }

pub returns-in_err-drive_all-clause-fault : goal.returns-in_err-drive_all-clause-fault
returns-in_err-drive_all-clause-fault c =
    let text = map syntax c.args.checked.now in
    let g = c.args.elaborated.now in
    let at = listed_at text g c.deref.result.now c.deref-2.result.now c.deref-3.result.now c.deref.ensures.value c.deref-2.ensures.value c.deref-3.ensures.value c.in_ok-list.list c.in_ok-list.ensures.list in
    let here : (c.in_err-drive_all.field-0.0 ≡ NoMemory) ⊎ ((d : Design) → IsElaborated text d g → IsRefusalOf d c.in_err-drive_all.field-0.0) =
    reported_on c.in_err-drive_all.ensures.fault (λ reports d has. first_undriven_cause c.laws_of_designs.ensures d c.in_err-drive_all.field-0.0 has.finite has.elaborated.once (reports d has (at d has))) in
    if_err c.from_residual-in_err-drive_all.result (λ fault. (fault ≡ NoMemory) ⊎ ((d : Design) → IsElaborated text d g → IsRefusalOf d fault)) c.in_err-drive_all.field-0.0 c.from_residual-in_err-drive_all.ensures.1 here

pub put_in_order-requires : goal.put_in_order-requires
put_in_order-requires c =
    let text = map syntax c.args.checked.now in
    let g = c.args.elaborated.now in
    let at = listed_at text g c.deref.result.now c.deref-2.result.now c.deref-3.result.now c.deref.ensures.value c.deref-2.ensures.value c.deref-3.ensures.value c.in_ok-list.list c.in_ok-list.ensures.list in
    record { design = (c.requires.design.0, c.requires.design.1, at c.requires.design.0 c.requires.design.1) }

pub returns-in_err-ordered-clause-fault : goal.returns-in_err-ordered-clause-fault
returns-in_err-ordered-clause-fault c =
    let text = map syntax c.args.checked.now in
    let g = c.args.elaborated.now in
    let at = listed_at text g c.deref.result.now c.deref-2.result.now c.deref-3.result.now c.deref.ensures.value c.deref-2.ensures.value c.deref-3.ensures.value c.in_ok-list.list c.in_ok-list.ensures.list in
    let here : (c.in_err-ordered.field-0.0 ≡ NoMemory) ⊎ ((d : Design) → IsElaborated text d g → IsRefusalOf d c.in_err-ordered.field-0.0) =
    reported_on c.in_err-ordered.ensures.fault (λ reports d has. first_loop_cause c.laws_of_designs.ensures d c.in_err-ordered.field-0.0 has.finite has.elaborated.once (c.in_ok-drive_all.ensures.driven d has (at d has)) (reports d has (at d has))) in
    if_err c.from_residual-in_err-ordered.result (λ fault. (fault ≡ NoMemory) ⊎ ((d : Design) → IsElaborated text d g → IsRefusalOf d fault)) c.in_err-ordered.field-0.0 c.from_residual-in_err-ordered.ensures.1 here

pub returns-clause-levelized : goal.returns-clause-levelized
returns-clause-levelized c =
    let text = map syntax c.args.checked.now in
    let g = c.args.elaborated.now in
    let at = listed_at text g c.deref.result.now c.deref-2.result.now c.deref-3.result.now c.deref.ensures.value c.deref-2.ensures.value c.deref-3.ensures.value c.in_ok-list.list c.in_ok-list.ensures.list in
    λ d has.
    let listed = at d has in
    record {
      lowering = listed.0;
      lowered = listed.1;
      listed = listed.2;
      netlist = c.in_ok-ordered.ensures.netlist;
      ordered = c.in_ok-ordered.ensures.ordered;
      driven = c.in_ok-drive_all.ensures.driven d has listed;
      acyclic = c.in_ok-ordered.ensures.acyclic d has listed;
    }
