use Rattle.std.proofs.Common.{◌≡◌, ◌≢◌, true≢false, ℕ, List, All, Some, refl, sym, ap, subst, ◌∙◌}
use Rattle.std.proofs.lemmas.List.{take_all}
use Rattle.std.proofs.lemmas.List.Elements.{All-contains}
use Rattle.std.proofs.lemmas.Option.{slice_get-get_or}
use Rattle.std.proofs.lemmas.Slice.Eq.{bytes_eq-Decides}
use Rattle.bb_lemmas.proofs.Names.{same_equal}
use Rattle.bb_match.proofs.Loops.{all_more}
use Rattle.bb_match.proofs.care.place_of.Goals as goal

pub returns-then-eq-clause-some : goal.returns-then-eq-clause-some
returns-then-eq-clause-some c =
    let text = c.args.text.now in
    let same : c.index-texts-place.result ≡ text = sym c.bytes.ensures.bytes ∙ same_equal c.bytes.result.now text (sym c.eq.ensures ∙ c.if-eq.true) in
    slice_get-get_or c.args.texts.now c.loop-place.place c.index-texts-place.result c.loop-place-test.true ∙ ap Some (sym c.index-texts-place.is ∙ same)

pub loop-place-preserved : goal.loop-place-preserved
loop-place-preserved c =
    let text = c.args.text.now in
    all_more (λ name. name ≢ text) c.args.texts.now c.loop-place.place c.index-texts-place.result c.loop-place-test.true c.index-texts-place.is c.loop-place.invariant
    (λ same. true≢false (sym ((bytes_eq-Decides c.bytes.result.now text).1 (c.bytes.ensures.bytes ∙ same)) ∙ (sym c.eq.ensures ∙ c.if-eq.false)))

pub returns-clause-none : goal.returns-clause-none
returns-clause-none c = λ has.
    let differ : List ℕ → Type 0 = λ name. name ≢ c.args.text.now in
    All-contains differ c.args.texts.now c.args.text.now (subst (All differ) (take_all c.loop-place.place c.args.texts.now c.loop-place-test.false) c.loop-place.invariant) has refl
