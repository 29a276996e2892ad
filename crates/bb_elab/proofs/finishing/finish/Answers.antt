use Rattle.std.proofs.Common.{◌≡◌, ◌⊎◌, map, sym, ap, ◌∙◌, subst}
use Rattle.std.specs.List.{AllZip}
use Rattle.bb_names.specs.Inside.Checked.{syntax}
use Rattle.bb_design.specs.declared.fault.ElabFault.TheVariants.{NoMemory}
use Rattle.bb_design.specs.Hierarchy.{Design, boxes}
use Rattle.bb_blast.specs.Inside.Placements.{IsScopeAt}
use Rattle.bb_design.specs.Refusals.{IsRefusalOf}
use Rattle.bb_elab.specs.Inside.Stages.{IsElaborated, AreLevelized}
use Rattle.bb_implements.specs.Implements.{Implements, box_number, box_texts}
use Rattle.bb_elab.proofs.LevelizedLists.{reported_on, if_err}
use Rattle.bb_elab.proofs.FinishedNets.{boxes_refused, registers_refused, ports_refused, numbers_within, is_sound, occurs, is_flat}
use Rattle.bb_elab.proofs.NamedBits.{scopes_within}
use Rattle.bb_elab.proofs.finishing.finish.Goals as goal

pub returns-in_err-boxed-clause-fault : goal.returns-in_err-boxed-clause-fault
returns-in_err-boxed-clause-fault c =
    let text = map syntax c.args.checked.now in
    let a = c.args.levelized in
    let fault = c.in_err-boxed.field-0.0 in
    let here : (fault ≡ NoMemory) ⊎ ((d : Design) → IsElaborated text d c.args.elaborated.now → AreLevelized d a.list a.ordered.net a.ordered.boxes.items → IsRefusalOf d fault) =
    reported_on c.in_err-boxed.ensures.fault (λ reports d has are. boxes_refused c.laws_of_designs.ensures text d c.args.elaborated.now has a.list a.ordered.net a.ordered.boxes.items are fault (reports d has)) in
    if_err c.from_residual.result (λ fault. (fault ≡ NoMemory) ⊎ ((d : Design) → IsElaborated (map syntax c.args.checked.now) d c.args.elaborated.now → AreLevelized d c.args.levelized.list c.args.levelized.ordered.net c.args.levelized.ordered.boxes.items → IsRefusalOf d fault)) fault c.from_residual.ensures.1 here

pub returns-in_err-texts-clause-fault : goal.returns-in_err-texts-clause-fault
returns-in_err-texts-clause-fault c =
    let text = map syntax c.args.checked.now in
    let a = c.args.levelized in
    let fault = c.in_err-texts.field-0.0 in
    let here : (fault ≡ NoMemory) ⊎ ((d : Design) → IsElaborated text d c.args.elaborated.now → AreLevelized d a.list a.ordered.net a.ordered.boxes.items → IsRefusalOf d fault) =
    reported_on c.in_err-texts.ensures.fault (λ reports d has are. registers_refused c.laws_of_designs.ensures text d c.args.elaborated.now has a.list a.ordered.net a.ordered.boxes.items are (c.in_ok-boxed.ensures.apart d has) fault (reports d has)) in
    if_err c.from_residual-in_err-texts.result (λ fault. (fault ≡ NoMemory) ⊎ ((d : Design) → IsElaborated (map syntax c.args.checked.now) d c.args.elaborated.now → AreLevelized d c.args.levelized.list c.args.levelized.ordered.net c.args.levelized.ordered.boxes.items → IsRefusalOf d fault)) fault c.from_residual-in_err-texts.ensures.1 here

pub returns-in_err-ports-clause-fault : goal.returns-in_err-ports-clause-fault
returns-in_err-ports-clause-fault c =
    let text = map syntax c.args.checked.now in
    let a = c.args.levelized in
    let fault = c.in_err-ports.field-0.0 in
    let here : (fault ≡ NoMemory) ⊎ ((d : Design) → IsElaborated text d c.args.elaborated.now → AreLevelized d a.list a.ordered.net a.ordered.boxes.items → IsRefusalOf d fault) =
    reported_on c.in_err-ports.ensures.fault (λ reports d has are. ports_refused c.laws_of_designs.ensures text d c.args.elaborated.now has a.list a.ordered.net a.ordered.boxes.items are (c.in_ok-boxed.ensures.apart d has) (c.in_ok-texts.ensures.apart d has) fault (reports d has)) in
    if_err c.from_residual-in_err-ports.result (λ fault. (fault ≡ NoMemory) ⊎ ((d : Design) → IsElaborated (map syntax c.args.checked.now) d c.args.elaborated.now → AreLevelized d c.args.levelized.list c.args.levelized.ordered.net c.args.levelized.ordered.boxes.items → IsRefusalOf d fault)) fault c.from_residual-in_err-ports.ensures.1 here

pub box_names-requires-clause-scopes : goal.box_names-requires-clause-scopes
box_names-requires-clause-scopes c =
    let given = c.requires.design in
    let d = given.0 in
    scopes_within d c.args.elaborated.now.placed.items given.1.elaborated.scopes c.deref.result.now (boxes d) (subst (λ l. AllZip (IsScopeAt d) l (boxes d)) (sym c.deref.ensures.value) (c.in_ok-boxed.ensures.boxed d given.1))

pub box_names-requires-clause-there : goal.box_names-requires-clause-there
box_names-requires-clause-there c =
    let given = c.requires.design in
    let d = given.0 in
    let a = c.args.levelized in
    numbers_within c.laws_of_designs.ensures (map syntax c.args.checked.now) d c.args.elaborated.now given.1 a.list a.ordered.net a.ordered.boxes.items given.2 c.deref.result.now
    (subst (λ l. AllZip (IsScopeAt d) l (boxes d)) (sym c.deref.ensures.value) (c.in_ok-boxed.ensures.boxed d given.1)) c.deref-2.result.now c.deref-2.ensures.value

pub of-requires : goal.of-requires
of-requires c =
    let text = map syntax c.args.checked.now in
    let g = c.args.elaborated.now in
    let a = c.args.levelized in
    let given = c.requires.design in
    let d = given.0 in
    let regs = c.in_ok-regs.ensures.registers d a.ordered.net a.ordered.boxes.items given.1 given.2 (c.in_ok-texts.ensures.texts d given.1) in
    let boxed = subst (λ l. AllZip (IsScopeAt d) l (boxes d)) (sym c.deref.ensures.value) (c.in_ok-boxed.ensures.boxed d given.1) in
    let named = c.in_ok-boxes.ensures.names d given.1 boxed ∙ ap (map (λ b. box_texts d (box_number d b))) c.deref-2.ensures.value in
    record {
      flat = is_flat c.laws_of_designs.ensures text d g given.1 a.list a.ordered.net a.ordered.boxes.items given.2 (c.in_ok-boxed.ensures.apart d given.1) (c.in_ok-texts.ensures.apart d given.1) (c.in_ok-ports.ensures.apart d given.1)
          c.in_ok-ports.ports.ins.items c.in_ok-regs.regs.items c.in_ok-ports.ports.outs.items c.in_ok-boxes.boxes.items (c.in_ok-ports.ensures.ins d given.1) regs (c.in_ok-ports.ensures.outs d given.1) named c.implementing_nets_are_flat.ensures c.implementing_nets_are_printable.ensures;
    }

pub returns-clause-occurs : goal.returns-clause-occurs
returns-clause-occurs c = λ d has are.
    let text = map syntax c.args.checked.now in
    let g = c.args.elaborated.now in
    let a = c.args.levelized in
    let regs = c.in_ok-regs.ensures.registers d a.ordered.net a.ordered.boxes.items has are (c.in_ok-texts.ensures.texts d has) in
    let boxed = subst (λ l. AllZip (IsScopeAt d) l (boxes d)) (sym c.deref.ensures.value) (c.in_ok-boxed.ensures.boxed d has) in
    let named = c.in_ok-boxes.ensures.names d has boxed ∙ ap (map (λ b. box_texts d (box_number d b))) c.deref-2.ensures.value in (
      subst (Implements d) (sym c.of.ensures.flat) (occurs c.laws_of_designs.ensures text d g has a.list a.ordered.net a.ordered.boxes.items are (c.in_ok-boxed.ensures.apart d has) (c.in_ok-texts.ensures.apart d has) (c.in_ok-ports.ensures.apart d has)
          c.in_ok-ports.ports.ins.items c.in_ok-regs.regs.items c.in_ok-ports.ports.outs.items c.in_ok-boxes.boxes.items (c.in_ok-ports.ensures.ins d has) regs (c.in_ok-ports.ensures.outs d has) named),
      is_sound c.laws_of_designs.ensures text d g has a.list a.ordered.net a.ordered.boxes.items are (c.in_ok-boxed.ensures.apart d has) (c.in_ok-texts.ensures.apart d has) (c.in_ok-ports.ensures.apart d has)
          c.in_ok-ports.ports.ins.items c.in_ok-regs.regs.items c.in_ok-ports.ports.outs.items c.in_ok-boxes.boxes.items (c.in_ok-ports.ensures.ins d has) regs (c.in_ok-ports.ensures.outs d has) named,
    )
