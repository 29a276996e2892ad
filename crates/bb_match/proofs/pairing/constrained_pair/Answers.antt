use Rattle.std.proofs.Common.{◌≡◌, ◌<◌, [], length, None, Some, sym, ap, subst, ◌∙◌}
use Rattle.std.specs.Prelude.{slice_get}
use Rattle.std.specs.List.{slice_index_or}
use Rattle.bb_lemmas.proofs.Tests.{if_err}
use Rattle.bb_match.specs.Refusals.{Box, Care}
use Rattle.bb_match.proofs.CarePairs.{care_there, has_room}
use Rattle.bb_match.proofs.CheckLemmas.{MayRefuse, WithBox, WithoutCare, box_reported, care_reported, refusal, taken_out}
use Rattle.bb_match.proofs.Decisions.{none_at_first, none_more}
use Rattle.bb_match.proofs.pairing.constrained_pair.Goals as goal

pub returns-in_err-check_boxes-clause-fault : goal.returns-in_err-check_boxes-clause-fault
returns-in_err-check_boxes-clause-fault c =
    let spec = c.args.spec in
    let imp = c.args.imp in
    let care = Some c.args.care.now in
    let fault = c.in_err-check_boxes.field-0.0 in
    if_err c.from_residual.result (MayRefuse care spec imp) fault c.from_residual.ensures.1 (refusal care spec imp Box fault (none_at_first care spec imp) (box_reported care spec imp fault (subst (WithBox fault) c.boxes.ensures.boxes c.in_err-check_boxes.ensures.fault)))

pub returns-in_err-place-clause-fault : goal.returns-in_err-place-clause-fault
returns-in_err-place-clause-fault c =
    let spec = c.args.spec in
    let imp = c.args.imp in
    let text = c.args.care.now in
    let care = Some text in
    let fault = c.in_err-place.field-0.0 in
    let before = none_more care spec imp Box (none_at_first care spec imp) (subst (λ l. l ≡ []) c.boxes.ensures.boxes c.in_ok-check_boxes.ensures.ok) in
    if_err c.from_residual-in_err-place.result (MayRefuse care spec imp) fault c.from_residual-in_err-place.ensures.1
    (refusal care spec imp Care fault before (care_reported text spec imp fault (subst (WithoutCare text fault) c.outs.ensures.outs c.in_err-place.ensures.fault)))

pub returns-in_err-parts-clause-fault : goal.returns-in_err-parts-clause-fault
returns-in_err-parts-clause-fault c =
    let spec = c.args.spec in
    let imp = c.args.imp in
    let text = c.args.care.now in
    let place = c.in_ok-place.place in
    let fault = c.in_err-parts.field-0.0 in
    let occurs = subst (λ l. slice_get l place ≡ Some text) c.outs.ensures.outs c.in_ok-place.ensures.ok in
    if_err c.from_residual-in_err-parts.result (MayRefuse (Some text) spec imp) fault c.from_residual-in_err-parts.ensures.1
    (taken_out text spec imp place fault c.in_ok-rest.ensures.kept occurs (subst (λ r. MayRefuse None r imp fault) c.in_ok-rest.ensures.rest c.in_err-parts.ensures.fault))

pub constrained-requires-clause-kept : goal.constrained-requires-clause-kept
constrained-requires-clause-kept c = c.pairs_are_kept.ensures None c.args.shared c.in_ok-rest.rest c.args.imp c.in_ok-parts.parts c.in_ok-parts.ensures.kept.0 c.in_ok-parts.ensures.kept.1 c.in_ok-parts.ensures.ok

pub constrained-requires-clause-room : goal.constrained-requires-clause-room
constrained-requires-clause-room c = has_room c.args.shared c.in_ok-rest.rest c.args.imp c.in_ok-parts.parts c.in_ok-parts.ensures.kept.0 c.in_ok-parts.ensures.kept.1 c.in_ok-parts.ensures.ok

pub constrained-requires-clause-care : goal.constrained-requires-clause-care
constrained-requires-clause-care c =
    let spec = c.args.spec in
    let text = c.args.care.now in
    let place = c.in_ok-place.place in
    let parts = c.in_ok-parts.parts in
    let occurs = subst (λ l. slice_get l place ≡ Some text) c.outs.ensures.outs c.in_ok-place.ensures.ok in
    let cells : length parts.spec.cells ≡ length spec.net.cells = ap (λ n. length n.cells) c.in_ok-parts.ensures.ok.spec_stays ∙ ap (λ f. length f.net.cells) c.in_ok-rest.ensures.rest in
    subst (λ l. slice_index_or l place 0 < length parts.spec.cells) (sym (c.outs-2.ensures.outs ∙ ap (λ n. n.outs) c.net.ensures.net))
    (subst (λ n. slice_index_or spec.net.outs place 0 < n) (sym cells) (care_there spec place text c.in_ok-rest.ensures.kept occurs))
