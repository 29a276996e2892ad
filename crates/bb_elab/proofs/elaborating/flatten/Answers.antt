use Rattle.std.proofs.Common.{◌≡◌, ◌⊎◌, map, refl, arith}
use Rattle.std.proofs.lemmas.List.{length-map}
use Rattle.std.proofs.lemmas.Result.{IfErr-weaker, IfOk-weaker}
use Rattle.bb_names.specs.Inside.Checked.{syntax}
use Rattle.bb_design.specs.declared.fault.ElabFault.TheVariants.{NoMemory}
use Rattle.bb_design.specs.Refusals.{IsRefusalOf, IsSoundDesign, design_on}
use Rattle.bb_elab.specs.Inside.Stages.{IsElaborated}
use Rattle.bb_hier.specs.Inside.Finite.{AtTop}
use Rattle.bb_implements.specs.Implements.{Implements}
use Rattle.bb_elab.proofs.LevelizedLists.{reported_on, if_err}
use Rattle.bb_lemmas.proofs.Places.{some_at}
use Rattle.bb_elab.proofs.elaborating.flatten.Goals as goal

pub arrange-requires : goal.arrange-requires
arrange-requires c =
    let text = map syntax c.args.checked.now in
    let m = some_at text c.args.top (omega (arith, c.requires.top, length-map c.args.checked.now syntax)) in
    record { design = (design_on text m.0, record { of_text = refl; finite = c.in_ok-called.ensures.finite m.0 m.1; elaborated = c.in_ok-elaborated.ensures.elaborated m.0 m.1 }) }

pub returns-in_err-levelized-clause-fault : goal.returns-in_err-levelized-clause-fault
returns-in_err-levelized-clause-fault c =
    let text = map syntax c.args.checked.now in
    let here : (c.in_err-levelized.field-0.0 ≡ NoMemory) ⊎ AtTop text c.args.top (λ d. IsRefusalOf d c.in_err-levelized.field-0.0) =
    reported_on c.in_err-levelized.ensures.fault (λ reports t at. reports (design_on text t) (record { of_text = refl; finite = c.in_ok-called.ensures.finite t at; elaborated = c.in_ok-elaborated.ensures.elaborated t at })) in
    if_err c.from_residual-in_err-levelized.result (λ fault. (fault ≡ NoMemory) ⊎ AtTop text c.args.top (λ d. IsRefusalOf d fault)) c.in_err-levelized.field-0.0 c.from_residual-in_err-levelized.ensures.1 here

pub finish-requires : goal.finish-requires
finish-requires c =
    let text = map syntax c.args.checked.now in
    let m = some_at text c.args.top (omega (arith, c.requires.top, length-map c.args.checked.now syntax)) in
    let d = design_on text m.0 in
    let has : IsElaborated text d c.in_ok-elaborated.elaborated = record { of_text = refl; finite = c.in_ok-called.ensures.finite m.0 m.1; elaborated = c.in_ok-elaborated.ensures.elaborated m.0 m.1 } in
    record { design = (d, has, c.in_ok-levelized.ensures.levelized d has) }

pub returns-clause-ok : goal.returns-clause-ok
returns-clause-ok c =
    let text = map syntax c.args.checked.now in
    IfOk-weaker c.finish.result _ (λ flat. AtTop text c.args.top (λ d. Implements d flat × IsSoundDesign d)) (λ flat is t at.
    let d = design_on text t in
    let has : IsElaborated text d c.in_ok-elaborated.elaborated = record { of_text = refl; finite = c.in_ok-called.ensures.finite t at; elaborated = c.in_ok-elaborated.ensures.elaborated t at } in
    is d has (c.in_ok-levelized.ensures.levelized d has)) c.finish.ensures.occurs

pub returns-clause-fault : goal.returns-clause-fault
returns-clause-fault c =
    let text = map syntax c.args.checked.now in
    IfErr-weaker c.finish.result _ (λ fault. (fault ≡ NoMemory) ⊎ AtTop text c.args.top (λ d. IsRefusalOf d fault)) (λ fault is. reported_on is (λ reports t at.
    let d = design_on text t in
    let has : IsElaborated text d c.in_ok-elaborated.elaborated = record { of_text = refl; finite = c.in_ok-called.ensures.finite t at; elaborated = c.in_ok-elaborated.ensures.elaborated t at } in
    reports d has (c.in_ok-levelized.ensures.levelized d has))) c.finish.ensures.fault
