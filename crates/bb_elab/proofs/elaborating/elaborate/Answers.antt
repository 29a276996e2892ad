use Rattle.std.proofs.Common.{◌≡◌, ◌<◌, ◌⊎◌, map, length, subst, arith}
use Rattle.std.specs.Prelude.{slice_get, option_copied, IfSome}
use Rattle.std.specs.Option.{option_and_then}
use Rattle.std.proofs.lemmas.List.{length-map}
use Rattle.bb_names.specs.Inside.Checked.{syntax}
use Rattle.bb_design.specs.declared.fault.ElabFault.TheVariants.{NoMemory}
use Rattle.bb_design.specs.Hierarchy.{top_of}
use Rattle.bb_design.specs.Refusals.{IsFirstDesignRefusal}
use Rattle.bb_elab.proofs.LevelizedLists.{if_err, match_err}
use Rattle.bb_elab.proofs.ElaboratedTexts.{may_refuse, only_memory, only_first, occurs_for_text, sound_text, not_refused}
use Rattle.bb_elab.proofs.elaborating.elaborate.Goals as goal

pub returns-in_err-flat-clause-fault : goal.returns-in_err-flat-clause-fault
returns-in_err-flat-clause-fault c =
    let text = map syntax c.args.checked.now in
    let name = option_copied c.args.top in
    let within = subst (λ o. IfSome o (λ k. k < length c.args.checked.now)) c.in-Some.is c.in_ok-top.ensures.there in
    let lt : c.in-Some.top < length text = omega (arith, within, length-map c.args.checked.now syntax) in
    let place : slice_get text c.in-Some.top ≡ top_of text name = subst (λ o. option_and_then (slice_get text) o ≡ top_of text name) c.in-Some.is c.in_ok-top.ensures.place in
    if_err c.from_residual-in_err-flat.result (λ fault. (fault ≡ NoMemory) ⊎ IsFirstDesignRefusal text name fault) c.in_err-flat.field-0.0 c.from_residual-in_err-flat.ensures.1 (may_refuse c.laws_of_designs.ensures text name c.in-Some.top lt place c.in_err-flat.field-0.0 c.in_err-flat.ensures.fault)

pub returns-in_err-flat-clause-only_sound : goal.returns-in_err-flat-clause-only_sound
returns-in_err-flat-clause-only_sound c =
    let text = map syntax c.args.checked.now in
    let name = option_copied c.args.top in
    let within = subst (λ o. IfSome o (λ k. k < length c.args.checked.now)) c.in-Some.is c.in_ok-top.ensures.there in
    let lt : c.in-Some.top < length text = omega (arith, within, length-map c.args.checked.now syntax) in
    let place : slice_get text c.in-Some.top ≡ top_of text name = subst (λ o. option_and_then (slice_get text) o ≡ top_of text name) c.in-Some.is c.in_ok-top.ensures.place in
    λ sound. if_err c.from_residual-in_err-flat.result (λ fault. fault ≡ NoMemory) c.in_err-flat.field-0.0 c.from_residual-in_err-flat.ensures.1 (only_memory c.laws_of_designs.ensures text name c.in-Some.top lt place c.in_err-flat.field-0.0 c.in_err-flat.ensures.fault sound)

pub returns-in_err-flat-clause-only_fault : goal.returns-in_err-flat-clause-only_fault
returns-in_err-flat-clause-only_fault c =
    let text = map syntax c.args.checked.now in
    let name = option_copied c.args.top in
    let within = subst (λ o. IfSome o (λ k. k < length c.args.checked.now)) c.in-Some.is c.in_ok-top.ensures.there in
    let lt : c.in-Some.top < length text = omega (arith, within, length-map c.args.checked.now syntax) in
    let place : slice_get text c.in-Some.top ≡ top_of text name = subst (λ o. option_and_then (slice_get text) o ≡ top_of text name) c.in-Some.is c.in_ok-top.ensures.place in
    λ first is. match_err c.from_residual-in_err-flat.result (λ fault. (fault ≡ first) ⊎ (fault ≡ NoMemory)) c.in_err-flat.field-0.0 c.from_residual-in_err-flat.ensures.1 (only_first c.laws_of_designs.ensures text name c.in-Some.top lt place c.in_err-flat.field-0.0 c.in_err-flat.ensures.fault first is)

pub returns-clause-ok : goal.returns-clause-ok
returns-clause-ok c =
    let text = map syntax c.args.checked.now in
    let name = option_copied c.args.top in
    let within = subst (λ o. IfSome o (λ k. k < length c.args.checked.now)) c.in-Some.is c.in_ok-top.ensures.there in
    let lt : c.in-Some.top < length text = omega (arith, within, length-map c.args.checked.now syntax) in
    let place : slice_get text c.in-Some.top ≡ top_of text name = subst (λ o. option_and_then (slice_get text) o ≡ top_of text name) c.in-Some.is c.in_ok-top.ensures.place in
    occurs_for_text c.laws_of_designs.ensures text name c.in-Some.top lt place c.in_ok-flat.flat c.in_ok-flat.ensures.ok

pub returns-clause-sound : goal.returns-clause-sound
returns-clause-sound c =
    let text = map syntax c.args.checked.now in
    let name = option_copied c.args.top in
    let within = subst (λ o. IfSome o (λ k. k < length c.args.checked.now)) c.in-Some.is c.in_ok-top.ensures.there in
    let lt : c.in-Some.top < length text = omega (arith, within, length-map c.args.checked.now syntax) in
    let place : slice_get text c.in-Some.top ≡ top_of text name = subst (λ o. option_and_then (slice_get text) o ≡ top_of text name) c.in-Some.is c.in_ok-top.ensures.place in
    sound_text c.laws_of_designs.ensures text name c.in-Some.top lt place c.in_ok-flat.flat c.in_ok-flat.ensures.ok

pub returns-clause-only_fault : goal.returns-clause-only_fault
returns-clause-only_fault c =
    let text = map syntax c.args.checked.now in
    let name = option_copied c.args.top in
    let within = subst (λ o. IfSome o (λ k. k < length c.args.checked.now)) c.in-Some.is c.in_ok-top.ensures.there in
    let lt : c.in-Some.top < length text = omega (arith, within, length-map c.args.checked.now syntax) in
    let place : slice_get text c.in-Some.top ≡ top_of text name = subst (λ o. option_and_then (slice_get text) o ≡ top_of text name) c.in-Some.is c.in_ok-top.ensures.place in
    not_refused c.laws_of_designs.ensures text name c.in-Some.top lt place c.in_ok-flat.flat c.in_ok-flat.ensures.ok
