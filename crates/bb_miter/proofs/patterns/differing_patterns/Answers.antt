use Rattle.std.proofs.Common.{◌≡◌, ◌∙◌, All, Vec, Bool, Global, List, sym, ap, subst, length, map, vec_items}
use Rattle.bb_tern.specs.Patterns.{patterns}
use Rattle.bb_miter.specs.Inside.Equivalence.{DiffersAt, SameAt}
use Rattle.bb_miter.proofs.TakenVectors.{lengths_of}
use Rattle.bb_miter.proofs.patterns.differing_patterns.Goals as goal

pub add_differing-requires-clause-inputs : goal.add_differing-requires-clause-inputs
add_differing-requires-clause-inputs c =
    let imp = c.args.imp.now in
    let items = c.in_ok-drawn.drawn.items in
    let lengths : All (λ p. length p.items ≡ imp.inputs) items = lengths_of vec_items imp.inputs items
    (subst (λ (xs : List (List Bool)). All (λ x. length x ≡ imp.inputs) xs) (ap (λ i. patterns i 512 c.args.seed) (sym c.inputs.ensures.inputs) ∙ sym c.in_ok-drawn.ensures.ok) (c.patterns_are_vectors.ensures imp.inputs 512 c.args.seed)) in
    subst (λ (xs : List (Vec Bool Global)). All (λ p. length p.items ≡ imp.inputs) xs) (sym c.deref.ensures.value) lengths

pub returns-clause-differ : goal.returns-clause-differ
returns-clause-differ c = subst (λ (xs : List (Vec Bool Global)). All (DiffersAt c.args.spec.now c.args.imp.now) (map vec_items xs)) (sym c.in_ok-vectors.ensures.vectors) c.in_ok-add_others.ensures.differ

pub returns-clause-none : goal.returns-clause-none
returns-clause-none c = λ e.
    let drawn = c.in_ok-add_differing.ensures.none (c.in_ok-add_others.ensures.none (sym c.in_ok-vectors.ensures.vectors ∙ e)) in
    subst (All (SameAt c.args.spec.now c.args.imp.now)) (ap (map vec_items) c.deref.ensures.value ∙ (c.in_ok-drawn.ensures.ok ∙ ap (λ i. patterns i 512 c.args.seed) c.inputs.ensures.inputs)) drawn.1
